-- What a conflict teaches.
use Rattle.std.specs.Prelude.{◌≡◌, ℕ, ◌<◌, List, [], Option, None, ◌⊎◌, Some, IfSome, IsTrue, ◌≤◌, slice_get, MatchOption}
use Rattle.sat_clauses.specs.declared.literal.Lit.{Lit}
use Rattle.std.specs.List.{IsDistinct}
use Rattle.sat_clauses.specs.Literals.{same_literal, opposite}
use Rattle.sat_clauses.specs.ClauseLists.{has, without}
use Rattle.sat_clauses.specs.Derivations.{Resolution, Makes}
use Rattle.sat_solver.specs.declared.entry.Entry.{Entry}
use Rattle.sat_solver.specs.declared.lesson.Lesson.{Lesson}
use Rattle.sat_solver.specs.declared.lesson.Measured.{Measured}
use Rattle.sat_solver.specs.Entries.{IsFreeIn, IsFalseClause, Forces, up_to}
use Rattle.sat_solver.specs.Trails.{TrailState}

-- a level below the present one is the least at which the other literals of the clause are all false, and there the
-- literal is free: the clause forces it
pub record Asserts (trail : TrailState) (clause : List Lit) (lit : Lit) (level : ℕ) : Type 0 where
  pub below : level < trail.level
  pub free : IsFreeIn (up_to level trail.entries) lit
  pub forces : Forces (up_to level trail.entries) clause lit
  pub least : (lower : ℕ) → lower < level → ¬ IsFalseClause (up_to lower trail.entries) (without clause lit)

-- of literals that are false, one whose entry is of a level or above; there is none if there are no literals
abbrev pub IsSecond : List Entry → List Lit → ℕ → Option Lit → Type 0
IsSecond entries lits level None = lits ≡ []
IsSecond entries lits level (Some lit) = IsTrue (has lits lit) × ((k : ℕ) (entry : Entry) → slice_get entries k ≡ Some entry → entry.lit ≡ opposite lit → level ≤ entry.level)

-- the literals of a clause other than the opposite of an entry's are false up to a level, and up to no lower one: a level
-- below the entry's, unless the entry is a decision
pub record Stops (trail : TrailState) (clause : List Lit) (entry : Entry) (measured : Measured) : Type 0 where
  pub literals : measured.clause.items ≡ clause
  pub distinct : IsDistinct same_literal clause
  pub others : IsFalseClause (up_to measured.level trail.entries) (without clause (opposite entry.lit))
  pub least : (lower : ℕ) → lower < measured.level → ¬ IsFalseClause (up_to lower trail.entries) (without clause (opposite entry.lit))
  pub second : IsSecond trail.entries (without clause (opposite entry.lit)) measured.level measured.second
  pub lower : (measured.level < entry.level) ⊎ (entry.reason ≡ None)

-- the step of a lesson that begins with the clause of a number
abbrev pub step_of : ℕ → Lesson → Resolution
step_of first lesson = record { first = first; links = lesson.chain.items }

-- a lesson has a clause that its chain makes, and its clause is empty or forces the asserted literal
pub record Teaches (clauses : List (List Lit)) (trail : TrailState) (conflict : ℕ) (lesson : Lesson) : Type 0 where
  pub makes : Makes clauses (step_of conflict lesson) lesson.clause.items
  pub falsified : IsFalseClause trail.entries lesson.clause.items
  pub asserted : MatchOption lesson.asserted (lesson.clause.items ≡ []) (λ assertion. Asserts trail lesson.clause.items assertion.lit assertion.level)
  pub second : IfSome lesson.asserted (λ assertion. IsSecond trail.entries (without lesson.clause.items assertion.lit) assertion.level assertion.second)
