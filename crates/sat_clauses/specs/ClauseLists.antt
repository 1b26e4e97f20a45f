-- Clauses: sets of literals, kept as lists.
use Rattle.std.specs.Prelude.{Bool, not, List, [], ◌∷◌, ◌++◌, filter, map, if◌then◌else◌, All}
use Rattle.std.specs.List.{list_any, list_all, IsDistinct}
use Rattle.std.specs.declared.vec.Vec.{Vec}
use Rattle.sat_clauses.specs.declared.literal.Lit.{Lit}
use Rattle.sat_clauses.specs.Literals.{IsLiteral, same_literal, opposite, is_true}

-- the clause has the literal
abbrev pub has : List Lit → Lit → Bool
has clause lit = list_any (same_literal lit) clause

-- an assignment holds a clause if the clause has a literal that is true, and clauses if it holds each
abbrev pub holds_clause : List Bool → List Lit → Bool
holds_clause values clause = list_any (is_true values) clause

abbrev pub holds : List Bool → List (List Lit) → Bool
holds values clauses = list_all (holds_clause values) clauses

-- the clause with a literal that goes last where it is new
abbrev pub with_literal : List Lit → Lit → List Lit
with_literal clause lit = if has clause lit then clause else clause ++ lit ∷ []

-- the clause without a literal
abbrev pub without : List Lit → Lit → List Lit
without clause lit = filter (λ other. not (same_literal lit other)) clause

-- the clause and then what literals add to it
abbrev pub joined : List Lit → List Lit → List Lit
joined clause [] = clause
joined clause (lit ∷ lits) = joined (with_literal clause lit) lits

-- each of the literals once, in the order in which they stand first
abbrev pub distinct_literals : List Lit → List Lit
distinct_literals lits = joined [] lits

-- what follows from two clauses, of which the first has the pivot and the second its opposite
abbrev pub resolvent : Lit → List Lit → List Lit → List Lit
resolvent pivot clause other = joined (without clause pivot) (without other (opposite pivot))

-- literals of variables with valid numbers, of which no two are the same
pub record IsClause (lits : List Lit) : Type 0 where
  pub literals : All IsLiteral lits
  pub distinct : IsDistinct same_literal lits

-- the lists in vectors of literals
abbrev pub literal_lists : {A : Type 0} → List (Vec Lit A) → List (List Lit)
literal_lists clauses = map (λ clause. clause.items) clauses
