-- The first of several faults, where they have ranks and places: none of a lower rank stands anywhere, and its place is the least at which it stands.
use Rattle.std.specs.Prelude.{ℕ, ◌≤◌}

pub record IsFirst {F : Type 0} (rank : F → ℕ) (Stands : F → ℕ → Type 0) (fault : F) (at : ℕ) : Type 0 where
  pub stands : Stands fault at
  pub first : (other : F) (place : ℕ) → Stands other place → rank fault ≤ rank other
  pub least : (place : ℕ) → Stands fault place → at ≤ place
