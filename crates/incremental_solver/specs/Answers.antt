-- What a solver answers under assumptions.
use Rattle.std.specs.Prelude.{Bool, List, IsTrue}
use Rattle.std.specs.List.{list_all}
use Rattle.sat_clauses.specs.declared.literal.Lit.{Lit}
use Rattle.sat_clauses.specs.Literals.{is_true}
use Rattle.sat_clauses.specs.ClauseLists.{holds}
use Rattle.incremental_solver.specs.declared.solver.AnswerWith.{AnswerWith}
use Rattle.incremental_solver.specs.declared.solver.AnswerWith.TheVariants.{Sat, Unsat}

-- an assignment holds the clauses and makes the assumptions true
pub record HoldsBoth (values : List Bool) (clauses : List (List Lit)) (assumed : List Lit) : Type 0 where
  pub held : IsTrue (holds values clauses)
  pub true_all : IsTrue (list_all (is_true values) assumed)

-- no assignment does
abbrev pub Refutes : List (List Lit) → List Lit → Type 0
Refutes clauses assumed = (values : List Bool) → ¬ HoldsBoth values clauses assumed

-- an answer gives an assignment that does, or says that none does
abbrev pub IsAnswerWith : List (List Lit) → List Lit → AnswerWith → Type 0
IsAnswerWith clauses assumed (Sat assignment) = HoldsBoth assignment.values.items clauses assumed
IsAnswerWith clauses assumed Unsat = Refutes clauses assumed
