-- What an arena keeps: each node beside the number of the first node of its tree.
use Rattle.std.specs.Prelude.{◌≡◌, ℕ, List, map, slice_get, Some}
use Rattle.arena_walk.specs.Tree.{Tree}
use Rattle.arena_walk.specs.Forest.{tree_at, first_number, HasArity}
use Rattle.arena_walk.specs.declared.arena.Slot.{Slot}

abbrev pub slot_nodes : {N : Type 0} → List (Slot N) → List N
slot_nodes slots = map (λ s. s.node) slots

abbrev pub slot_firsts : {N : Type 0} → List (Slot N) → List ℕ
slot_firsts slots = map (λ s. s.first) slots

-- each node found as many trees as its arity, and beside it stands where its tree begins
unfoldable pub AreSound : {N : Type 0} → (N → ℕ) → List N → List ℕ → Type 0
AreSound {N} arity ns firsts =
    (at : ℕ) (t : Tree N) → tree_at arity ns at ≡ Some t → HasArity arity t × (slice_get firsts at ≡ Some (first_number at t))
