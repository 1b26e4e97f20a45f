-- What a store keeps of its clauses.
use Rattle.std.specs.Prelude.{ℕ, ◌≤◌, List, All}
use Rattle.sat_clauses.specs.declared.literal.Lit.{Lit}
use Rattle.sat_clauses.specs.ClauseLists.{IsClause}

-- each is a clause of the variables up to a number
pub record KeepsClauses (vars : ℕ) (clauses : List (List Lit)) : Type 0 where
  pub each : All IsClause clauses
  pub within : All (λ clause. All (λ lit. lit.var ≤ vars) clause) clauses
