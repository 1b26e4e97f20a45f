-- Lists of watches, one for each literal.
use Rattle.std.specs.Prelude.{◌≡◌, ◌≢◌, ℕ, zero, suc, ◌+◌, ◌-◌, ◌*◌, ◌<◌, ◌≤◌, ◌==◌, Bool, not, ◌&&◌, if◌then◌else◌, List, [], ◌∷◌, ◌++◌, length, filter, slice_get, slice_index_or, Option, None, Some}
use Rattle.std.specs.List.Sorted.{IsPermutation}
use Rattle.sat_clauses.specs.declared.literal.Lit.{Lit}
use Rattle.sat_links.specs.declared.watches.Watch.{Watch}

-- the place of a literal's list: variable v has it at 2 * (v - 1), and the opposite of v at the place after that
abbrev pub place_of : Lit → ℕ
place_of lit = 2 * (lit.var - 1) + (if lit.positive then 0 else 1)

-- there is a list for the literal
abbrev pub IsListed : List (List Watch) → Lit → Type 0
IsListed lists lit = (1 ≤ lit.var) × (place_of lit < length lists)

-- the watches of a literal
abbrev pub watches_of : List (List Watch) → Lit → List Watch
watches_of lists lit = slice_index_or lists (place_of lit) []

-- the watches of all literals
abbrev pub joined : List (List Watch) → List Watch
joined [] = []
joined (list ∷ lists) = list ++ joined lists

-- a slot of a clause, and slots 0 and 1 of each clause below a number
abbrev pub slot_of : ℕ → ℕ → Watch
slot_of clause number = record { clause = clause; slot = number }

abbrev pub slots_of : ℕ → List Watch
slots_of zero = []
slots_of (suc clauses) = slots_of clauses ++ slot_of clauses 0 ∷ slot_of clauses 1 ∷ []

-- both slots of each clause below a number stand in the lists once, and nothing else does
abbrev pub HasClauses : ℕ → List (List Watch) → Type 0
HasClauses clauses lists = IsPermutation (slots_of clauses) (joined lists)

-- two watches are one slot of one clause
abbrev pub same_watch : Watch → Watch → Bool
same_watch a b = a.clause == b.clause && a.slot == b.slot

-- a list without a watch
abbrev pub without : Watch → List Watch → List Watch
without watch list = filter (λ other. not (same_watch watch other)) list

-- literals other than two keep their lists
abbrev pub OthersStay : List (List Watch) → List (List Watch) → Lit → Lit → Type 0
OthersStay old new one two = (other : Lit) → 1 ≤ other.var → other ≢ one → other ≢ two → watches_of new other ≡ watches_of old other

-- a watch stands first in a list, or right after another
abbrev pub StandsAfter : List Watch → Option Watch → Watch → Type 0
StandsAfter list None watch = slice_get list 0 ≡ Some watch
StandsAfter list (Some before) watch = (k : ℕ) × (slice_get list k ≡ Some before) × (slice_get list (k + 1) ≡ Some watch)

-- what follows a watch in the list in which it stands, if anything does
abbrev pub Follows : List (List Watch) → Watch → Option Watch → Type 0
Follows lists watch next = (lit : Lit) (k : ℕ) → slice_get (watches_of lists lit) k ≡ Some watch → next ≡ slice_get (watches_of lists lit) (k + 1)
