-- Queues of variables.
use Rattle.std.specs.Prelude.{◌≡◌, ℕ, ◌+◌, ◌-◌, ◌==◌, Bool, not, List, [], ◌∷◌, ◌++◌, filter, slice_get, slice_index_or, Option, None, Some, IsSome, All}
use Rattle.std.specs.List.{range_with_len}
use Rattle.std.specs.List.Sorted.{IsPermutation}

-- the variables from 1 to a number, in order
abbrev pub variables : ℕ → List ℕ
variables vars = range_with_len 1 vars

-- the queue has each variable from 1 to a number, once
abbrev pub IsQueue : ℕ → List ℕ → Type 0
IsQueue vars queue = IsPermutation (variables vars) queue

-- the queue with a variable at its end, and the others in their order
abbrev pub moved_to_end : ℕ → List ℕ → List ℕ
moved_to_end var queue = filter (λ other. not (other == var)) queue ++ var ∷ []

-- the value of a variable, which is that at the place before its number
abbrev pub value_of : List (Option Bool) → ℕ → Option Bool
value_of values var = slice_index_or values (var - 1) None

-- the variable has a value
abbrev pub HasValue : List (Option Bool) → ℕ → Type 0
HasValue values var = IsSome (value_of values var)

-- a variable of the queue has no value, and each after it has one
pub record IsLastFree (values : List (Option Bool)) (queue : List ℕ) (var : ℕ) : Type 0 where
  pub before : List ℕ
  pub after : List ℕ
  pub place : queue ≡ before ++ var ∷ after
  pub free : value_of values var ≡ None
  pub valued : All (HasValue values) after

-- what stands right before a variable of the queue, which stands first where nothing does
abbrev pub Precedes : List ℕ → ℕ → Option ℕ → Type 0
Precedes queue var None = slice_get queue 0 ≡ Some var
Precedes queue var (Some before) = (k : ℕ) × (slice_get queue k ≡ Some before) × (slice_get queue (k + 1) ≡ Some var)
