-- What a solver answers.
use Rattle.std.specs.Prelude.{◌≡◌, ◌+◌, ◌^◌, ◌<◌, List, IsTrue, length}
use Rattle.sat_clauses.specs.declared.literal.Lit.{Lit}
use Rattle.sat_clauses.specs.ClauseLists.{holds}
use Rattle.sat_clauses.specs.Derivations.{Derives, steps_of}
use Rattle.sat_solver.specs.declared.solver.Answer.{Answer}
use Rattle.sat_solver.specs.declared.solver.Answer.TheVariants.{Sat, Unsat}
use Rattle.sat_solver.specs.Stores.{greatest_var}

-- an assignment holds the clauses and has a value for each variable up to the greatest, or a derivation derives the empty
-- clause from them, and the numbers of its clauses are below 2 ^ 63
abbrev pub IsAnswer : List (List Lit) → Answer → Type 0
IsAnswer clauses (Sat assignment) = IsTrue (holds assignment.values.items clauses) × (length assignment.values.items ≡ greatest_var clauses)
IsAnswer clauses (Unsat derivation) = Derives clauses (steps_of derivation) × (length clauses + length (steps_of derivation) < 2 ^ 63)
