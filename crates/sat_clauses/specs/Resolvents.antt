-- Clauses in the making, as slots.
use Rattle.std.specs.Prelude.{◌≡◌, ℕ, List, Option, Some, slice_get}
use Rattle.std.specs.List.{filter_map}
use Rattle.sat_clauses.specs.declared.literal.Lit.{Lit}

-- the literals in slots, in order
abbrev pub filled : List (Option Lit) → List Lit
filled slots = filter_map (λ slot. slot) slots

-- each literal in a slot has its place there; other literals may have any place
abbrev pub IsPlaced : List (Option Lit) → (Lit → Option ℕ) → Type 0
IsPlaced slots place_of = (place : ℕ) (lit : Lit) → slice_get slots place ≡ Some (Some lit) → place_of lit ≡ Some place
