-- Trails and stores that belong together.
use Rattle.std.specs.Prelude.{◌≡◌, ◌≢◌, ◌≤◌, ◌<◌, ℕ, List, IsTrue, Option, None, Some, length, slice_get, [], ◌∷◌, ◌++◌}
use Rattle.sat_clauses.specs.declared.literal.Lit.{Lit}
use Rattle.sat_clauses.specs.Literals.{opposite}
use Rattle.sat_clauses.specs.ClauseLists.{has}
use Rattle.sat_links.specs.declared.watches.Watch.{Watch}
use Rattle.sat_links.specs.Watches.{watches_of, without}
use Rattle.sat_solver.specs.declared.entry.Entry.{Entry}
use Rattle.sat_solver.specs.declared.pair.Pair.{Pair}
use Rattle.sat_solver.specs.declared.propagate.Visit.{Visit}
use Rattle.sat_solver.specs.declared.propagate.Visit.TheVariants.{Stays, Moves, Conflict}
use Rattle.sat_solver.specs.Stores.{StoreState}
use Rattle.sat_solver.specs.Watching.{guard, IsWatching}
use Rattle.sat_solver.specs.Entries.{IsConflict, Extends}
use Rattle.sat_solver.specs.Trails.{TrailState, IsTrail}

-- an entry, of a level that isn't above a given one, made the literal true
pub record IsMade (entries : List Entry) (lit : Lit) (level : ℕ) : Type 0 where
  pub place : ℕ
  pub entry : Entry
  pub at : slice_get entries place ≡ Some entry
  pub is : entry.lit ≡ lit
  pub low : entry.level ≤ level

-- where the literal was made false in the part of the trail that was worked through, the other is true at no higher level
abbrev pub Guards : TrailState → Lit → Lit → Type 0
Guards trail lit other = (place : ℕ) (entry : Entry) → place < trail.worked → slice_get trail.entries place ≡ Some entry → entry.lit ≡ opposite lit → IsMade trail.entries other entry.level

-- the clause at a place has a literal that was made true, on a level that isn't above a given one
pub record IsHeld (entries : List Entry) (clauses : List (List Lit)) (level place : ℕ) : Type 0 where
  pub clause : List Lit
  pub found : slice_get clauses place ≡ Some clause
  pub lit : Lit
  pub there : IsTrue (has clause lit)
  pub made : IsMade entries lit level

-- the first short clauses, as many as told, are held
abbrev pub HoldsFirst : ℕ → List Entry → StoreState → ℕ → Type 0
HoldsFirst count entries store level = (k place : ℕ) → k < count → slice_get store.short k ≡ Some place → IsHeld entries store.clauses level place

-- a trail and a store have the same variables; the two watched literals of a clause guard each other; the short clauses
-- that were seen hold on level 0; and what wasn't worked through is of the present level
pub record Paired (trail : TrailState) (store : StoreState) : Type 0 where
  pub is_trail : IsTrail trail
  pub vars : trail.vars ≡ store.vars
  pub watching : IsWatching store
  pub guards : (number : ℕ) (pair : Pair) → slice_get store.pairs number ≡ Some pair → Guards trail pair.first pair.second × Guards trail pair.second pair.first
  pub among : store.seen ≤ length store.short
  pub seen : HoldsFirst store.seen trail.entries store 0
  pub present : (place : ℕ) (entry : Entry) → trail.worked ≤ place → slice_get trail.entries place ≡ Some entry → entry.level ≡ trail.level

-- a trail goes on at its level beside a store whose clauses stay, and the two are paired
pub record GoesOn (old : TrailState) (store : StoreState) (new : TrailState) (now : StoreState) : Type 0 where
  pub extends : Extends store.clauses old.level old.entries new.entries
  pub level : new.level ≡ old.level
  pub vars : new.vars ≡ old.vars
  pub worked : old.worked ≤ new.worked
  pub clauses : now.clauses ≡ store.clauses
  pub short : now.short ≡ store.short
  pub paired : Paired new now

-- the other literal of a watch's pair is true
abbrev pub IsDone : TrailState → List Pair → Watch → Type 0
IsDone trail pairs watch = (pair : Pair) → slice_get pairs watch.clause ≡ Some pair → IsMade trail.entries (guard pair watch.slot) trail.level

-- all watches of a literal are done
abbrev pub AllDone : TrailState → StoreState → Lit → Type 0
AllDone trail store lit = (k : ℕ) (watch : Watch) → slice_get (watches_of store.lists lit) k ≡ Some watch → IsDone trail store.pairs watch

-- the literal became false by the first entry that wasn't worked through; there is none, if all were
abbrev pub IsNextFalse : TrailState → Option Lit → Type 0
IsNextFalse trail None = length trail.entries ≤ trail.worked
IsNextFalse trail (Some lit) = (entry : Entry) × (slice_get trail.entries trail.worked ≡ Some entry) × (lit ≡ opposite entry.lit)

-- the pairs of other numbers stay, and the list of a literal loses a watch
pub record Leaves (store now : StoreState) (lit : Lit) (watch : Watch) : Type 0 where
  pub list : watches_of now.lists lit ≡ without watch (watches_of store.lists lit)
  pub pairs : (number : ℕ) → number ≢ watch.clause → slice_get now.pairs number ≡ slice_get store.pairs number

-- what came of a look at a watch of a literal
abbrev pub VisitIs : StoreState → StoreState → TrailState → Lit → Watch → Visit → Type 0
VisitIs store now trail lit watch Stays = (now ≡ store) × IsDone trail now.pairs watch
VisitIs store now trail lit watch Moves = Leaves store now lit watch
VisitIs store now trail lit watch (Conflict place) = IsConflict trail.entries store.clauses place

-- a store has a clause more, which watches a literal and a second one; with no second one it is short
pub record IsLearnt (old now : StoreState) (clause : List Lit) : Type 0 where
  pub clauses : now.clauses ≡ old.clauses ++ clause ∷ []
  pub vars : now.vars ≡ old.vars
  pub seen : now.seen ≡ old.seen

abbrev pub Learnt : StoreState → StoreState → List Lit → Lit → Option Lit → Type 0
Learnt old now clause lit None = IsLearnt old now clause × (now.pairs ≡ old.pairs) × (now.short ≡ old.short ++ length old.clauses ∷ [])
Learnt old now clause lit (Some second) = IsLearnt old now clause × (now.pairs ≡ old.pairs ++ record { place = length old.clauses; first = lit; second = second } ∷ []) × (now.short ≡ old.short)
