-- How the clauses of a store watch their literals.
use Rattle.std.specs.Prelude.{◌≡◌, ◌≢◌, ℕ, ◌*◌, ◌<◌, ◌==◌, if◌then◌else◌, List, IsTrue, Some, length, slice_get, ◌⊎◌}
use Rattle.sat_clauses.specs.declared.literal.Lit.{Lit}
use Rattle.sat_clauses.specs.ClauseLists.{has}
use Rattle.sat_links.specs.declared.watches.Watch.{Watch}
use Rattle.sat_links.specs.Watches.{IsListed, watches_of, HasClauses}
use Rattle.sat_solver.specs.declared.pair.Pair.{Pair}
use Rattle.sat_solver.specs.Stores.{StoreState}

-- the literal that a pair watches by a slot, and the one that it watches by the other slot
abbrev pub watched : Pair → ℕ → Lit
watched pair slot = if slot == 0 then pair.first else pair.second

abbrev pub guard : Pair → ℕ → Lit
guard pair slot = if slot == 0 then pair.second else pair.first

-- the pair that watches another literal by a slot
abbrev pub moved : Pair → ℕ → Lit → Pair
moved pair slot lit = record { place = pair.place; first = if slot == 0 then lit else pair.first; second = if slot == 0 then pair.second else lit }

-- the clause at the place of a pair has both literals, which differ
pub record IsPairOf (clauses : List (List Lit)) (pair : Pair) : Type 0 where
  pub clause : List Lit
  pub found : slice_get clauses pair.place ≡ Some clause
  pub first : IsTrue (has clause pair.first)
  pub second : IsTrue (has clause pair.second)
  pub differ : pair.first ≢ pair.second

-- a watch is one of a literal: the pair of its number watches the literal by its slot
pub record Watches (pairs : List Pair) (lit : Lit) (watch : Watch) : Type 0 where
  pub pair : Pair
  pub found : slice_get pairs watch.clause ≡ Some pair
  pub is : watched pair watch.slot ≡ lit
  pub slot : watch.slot < 2

-- the watch stands in the list
abbrev pub StandsIn : List Watch → Watch → Type 0
StandsIn list watch = (k : ℕ) × (slice_get list k ≡ Some watch)

-- the clause at a place has no literal, or one
pub record IsShort (clauses : List (List Lit)) (place : ℕ) : Type 0 where
  pub clause : List Lit
  pub found : slice_get clauses place ≡ Some clause
  pub short : length clause < 2

-- the clause at a place is short, or a pair watches two of its literals
abbrev pub IsSeenTo : List ℕ → List Pair → ℕ → Type 0
IsSeenTo short pairs place = ((k : ℕ) × (slice_get short k ≡ Some place)) ⊎ ((number : ℕ) × (pair : Pair) × (slice_get pairs number ≡ Some pair) × (pair.place ≡ place))

-- each clause of two literals or more watches two of its literals, and the list of a literal has its watches
pub record Watching (clauses : List (List Lit)) (vars : ℕ) (pairs : List Pair) (lists : List (List Watch)) (short : List ℕ) : Type 0 where
  pub literals : length lists ≡ 2 * vars
  pub numbers : HasClauses (length pairs) lists
  pub paired : (number : ℕ) (pair : Pair) → slice_get pairs number ≡ Some pair → IsPairOf clauses pair
  pub watches : (lit : Lit) (watch : Watch) → IsListed lists lit → Watches pairs lit watch → StandsIn (watches_of lists lit) watch
  pub listed : (lit : Lit) (watch : Watch) (k : ℕ) → IsListed lists lit → slice_get (watches_of lists lit) k ≡ Some watch → Watches pairs lit watch
  pub shorts : (k place : ℕ) → slice_get short k ≡ Some place → IsShort clauses place
  pub all : (place : ℕ) → place < length clauses → IsSeenTo short pairs place

abbrev pub IsWatching : StoreState → Type 0
IsWatching store = Watching store.clauses store.vars store.pairs store.lists store.short
