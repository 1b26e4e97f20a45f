-- Links of numbers in both directions, around a ring that begins and ends in 0.
use Rattle.std.specs.Prelude.{◌≡◌, ℕ, zero, suc, ◌+◌, ◌-◌, List, [], ◌∷◌, length, slice_index}
use Rattle.sat_links.specs.Queues.{IsQueue}

-- the numbers that follow a number, as many as asked for
abbrev pub following : List ℕ → ℕ → ℕ → List ℕ
following next from zero = []
following next from (suc count) = slice_index next from ∷ following next (slice_index next from) count

-- the numbers that follow 0 around the ring
abbrev pub ring_of : List ℕ → List ℕ
ring_of next = following next 0 (length next - 1)

-- the links lead from a number through a list to a number, and back
abbrev pub Leads : List ℕ → List ℕ → ℕ → List ℕ → ℕ → Type 0
Leads previous next from [] to = (slice_index next from ≡ to) × (slice_index previous to ≡ from)
Leads previous next from (x ∷ xs) to = (slice_index next from ≡ x) × (slice_index previous x ≡ from) × Leads previous next x xs to

-- the links lead from 0 through a queue of all other numbers to 0
pub record IsRing (previous next : List ℕ) : Type 0 where
  pub vars : ℕ
  pub all_before : length previous ≡ vars + 1
  pub all_after : length next ≡ vars + 1
  pub ring : Leads previous next 0 (ring_of next) 0
  pub queue : IsQueue vars (ring_of next)
