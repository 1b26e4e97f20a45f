-- A question about the clauses of a search under assumptions.
use Rattle.std.specs.Prelude.{◌≡◌, ℕ, ◌<◌, List, Bool, true, None, Some, IsSome, IsTrue, All, ◌⊎◌, length, slice_get}
use Rattle.sat_clauses.specs.declared.literal.Lit.{Lit}
use Rattle.sat_clauses.specs.ClauseLists.{holds}
use Rattle.sat_solver.specs.declared.entry.Entry.{Entry}
use Rattle.sat_solver.specs.declared.search.Search.{Search}
use Rattle.sat_solver.specs.Entries.{AllAlong, AllSettled, truth_in, values_of}
use Rattle.sat_solver.specs.Searches.{IsSearch, Rises, weight_of}
use Rattle.incremental_solver.specs.declared.inquiry.Turn.{Turn}
use Rattle.incremental_solver.specs.declared.inquiry.Turn.TheVariants.{GoesOn, Holds, Refuted}
use Rattle.incremental_solver.specs.Answers.{Refutes}

-- the first assumptions, as many as told, are true
abbrev pub AreTrue : ℕ → List Entry → List Lit → Type 0
AreTrue count entries assumed = (k : ℕ) (lit : Lit) → k < count → slice_get assumed k ≡ Some lit → truth_in entries lit ≡ Some true

-- a decision is an assumption, or all assumptions were true before it
abbrev pub IsAssumed : List Lit → List Entry → Entry → Type 0
IsAssumed assumed before entry = entry.reason ≡ None → ((k : ℕ) × (slice_get assumed k ≡ Some entry.lit)) ⊎ AreTrue (length assumed) before assumed

abbrev pub AssumesFirst : List Lit → List Entry → Type 0
AssumesFirst assumed entries = AllAlong (IsAssumed assumed) entries

-- a search has its clauses at their places, and perhaps more, which follow from them
pub record Grows (old new : Search) : Type 0 where
  pub search : IsSearch new
  pub vars : new.trail.vars ≡ old.trail.vars
  pub kept : (place : ℕ) (clause : List Lit) → slice_get old.store.clauses place ≡ Some clause → slice_get new.store.clauses place ≡ Some clause
  pub follow : (values : List Bool) → IsTrue (holds values old.store.clauses) → IsTrue (holds values new.store.clauses)

-- a search goes on: its trail rises, its decisions are assumptions first, and the first assumptions are true
pub record Continues (old new : Search) (assumed : List Lit) (count : ℕ) : Type 0 where
  pub farther : weight_of old < weight_of new
  pub rises : Rises old.trail new.trail
  pub assumes : AssumesFirst assumed new.trail.entries
  pub settled : AreTrue count new.trail.entries assumed

-- all variables have values, no clause is false or unit, and the assumptions are true
pub record Ends (new : Search) (assumed : List Lit) : Type 0 where
  pub valued : All IsSome (values_of new.trail.vars new.trail.entries)
  pub settled : AllSettled new.trail.entries new.store.clauses
  pub true_all : AreTrue (length assumed) new.trail.entries assumed

-- what a turn says of a search before and after it
abbrev pub TurnIs : Search → Search → List Lit → Turn → Type 0
TurnIs old new assumed (GoesOn settled) = Continues old new assumed settled
TurnIs old new assumed Holds = Ends new assumed
TurnIs old new assumed Refuted = Refutes old.store.clauses assumed
