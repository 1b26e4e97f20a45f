-- The search of a solver.
use Rattle.std.specs.Prelude.{◌≡◌, ℕ, ◌+◌, ◌<◌, ◌≤◌, List, [], ◌∷◌, ◌++◌, ◌^◌, Bool, true, false, None, Some, IsSome, IsTrue, All, length, take, map}
use Rattle.std.specs.declared.cmp.Ordering.TheVariants.{Less}
use Rattle.std.specs.Ordering.{nat_cmp}
use Rattle.std.specs.Cmp.Lexicographic.{slice_cmp}
use Rattle.sat_clauses.specs.declared.literal.Lit.{Lit}
use Rattle.sat_clauses.specs.declared.literal.Assignment.{Assignment}
use Rattle.sat_clauses.specs.Literals.{is_true}
use Rattle.sat_clauses.specs.Derivations.{Resolution, Makes, Follow, resolution_of}
use Rattle.sat_links.specs.Queues.{IsQueue}
use Rattle.sat_solver.specs.declared.entry.Entry.{Entry}
use Rattle.sat_solver.specs.declared.search.Search.{Search}
use Rattle.sat_solver.specs.declared.search.Turn.{Turn}
use Rattle.sat_solver.specs.declared.search.Turn.TheVariants.{GoesOn, Holds, Derives}
use Rattle.sat_solver.specs.Entries.{AllReasoned, AllSettled, truth_in, values_of}
use Rattle.sat_solver.specs.Trails.{TrailState, IsTrail, with_entry}
use Rattle.sat_solver.specs.Pairing.{Paired}
use Rattle.sat_solver.specs.Measures.{level_counts, weight}

-- the parts of a search belong together
pub record IsSearch (search : Search) : Type 0 where
  pub trail : IsTrail search.trail
  pub reasons : AllReasoned search.store.clauses search.trail.entries
  pub paired : Paired search.trail search.store
  pub queue : IsQueue search.trail.vars search.order.queue

-- the steps that a search made
abbrev pub steps_in : Search → List Resolution
steps_in search = map resolution_of search.steps.items

-- how far the trail of a search has come
abbrev pub weight_of : Search → ℕ
weight_of search = weight search.trail.vars search.trail.entries

-- a search made one step more, which makes a clause
pub record Derived (old new : Search) (clause : List Lit) : Type 0 where
  pub step : Resolution
  pub makes : Makes old.store.clauses step clause
  pub steps : steps_in new ≡ steps_in old ++ step ∷ []

-- a search opened a level with a literal
pub record Opens (old new : Search) : Type 0 where
  pub lit : Lit
  pub trail : new.trail ≡ with_entry old.trail (record { lit = lit; level = old.trail.level + 1; reason = None })

-- a search kept the first entries of its trail, and has one more, which was forced
pub record Keeps (old new : Search) : Type 0 where
  pub count : ℕ
  pub entry : Entry
  pub entries : new.trail.entries ≡ take count old.trail.entries ++ entry ∷ []
  pub reasoned : IsSome entry.reason

-- a search has the clauses and the variables that it had
pub record Stays (old new : Search) : Type 0 where
  pub search : IsSearch new
  pub clauses : new.store.clauses ≡ old.store.clauses
  pub vars : new.trail.vars ≡ old.trail.vars

-- a search learnt a clause, and its trail came farther
pub record Learns (old new : Search) : Type 0 where
  pub clause : List Lit
  pub derived : Derived old new clause
  pub store : new.store.clauses ≡ old.store.clauses ++ clause ∷ []
  pub kept : Keeps old new
  pub vars : new.trail.vars ≡ old.trail.vars
  pub farther : weight_of old < weight_of new
  pub search : IsSearch new

-- a search made a last step, which makes the empty clause, and its clauses are few
pub record DerivesEmpty (old new : Search) : Type 0 where
  pub derived : Derived old new []
  pub few : length old.store.clauses < 2 ^ 62

-- a search learnt a clause, or derived the empty one and ends
abbrev pub LearnsOrEnds : Search → Search → Bool → Type 0
LearnsOrEnds old new true = Learns old new
LearnsOrEnds old new false = DerivesEmpty old new × Stays old new

-- the list of literal counts per level rises in lexicographic order
abbrev pub Rises : TrailState → TrailState → Type 0
Rises old new = slice_cmp nat_cmp (level_counts old) (level_counts new) ≡ Less

-- a turn after which a search goes on: its trail rises, and its steps make what it knows
pub record Continues (old new : Search) : Type 0 where
  pub search : IsSearch new
  pub vars : new.trail.vars ≡ old.trail.vars
  pub rises : Rises old.trail new.trail
  pub known : (clauses : List (List Lit)) → Follow clauses (steps_in old) old.store.clauses → Follow clauses (steps_in new) new.store.clauses

-- a turn after which all variables have values and no known clause is false or unit
pub record Ends (old new : Search) : Type 0 where
  pub vars : new.trail.vars ≡ old.trail.vars
  pub valued : All IsSome (values_of new.trail.vars new.trail.entries)
  pub settled : AllSettled new.trail.entries old.store.clauses

-- what a turn says of a search before and after it
abbrev pub TurnIs : Search → Search → Turn → Type 0
TurnIs old new GoesOn = Continues old new
TurnIs old new Holds = Ends old new
TurnIs old new Derives = DerivesEmpty old new

-- an assignment makes each literal true that is true on a trail
abbrev pub GivesTruths : Assignment → TrailState → Type 0
GivesTruths assignment trail = (lit : Lit) → 1 ≤ lit.var → lit.var ≤ trail.vars → truth_in trail.entries lit ≡ Some true → IsTrue (is_true assignment.values.items lit)
