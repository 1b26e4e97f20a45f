-- Laws of resolution.
use Rattle.std.specs.Prelude.{◌≡◌, Bool, not, ◌&&◌, ◌||◌, List, IsTrue}
use Rattle.sat_clauses.specs.declared.literal.Lit.{Lit}
use Rattle.sat_clauses.specs.Literals.{same_literal, opposite}
use Rattle.sat_clauses.specs.ClauseLists.{has, holds, distinct_literals, resolvent}
use Rattle.sat_clauses.specs.Derivations.{Resolution, Derives}

-- clauses from which the empty clause is derived are held by no assignment
abbrev pub ResolutionIsSound : Type 0
ResolutionIsSound = (clauses : List (List Lit)) (steps : List Resolution) (values : List Bool) → Derives clauses steps → ¬ IsTrue (holds values clauses)

-- a resolvent has the literals of the one clause other than the pivot, and those of the other other than its opposite
abbrev pub ResolventsAreSets : Type 0
ResolventsAreSets = (pivot : Lit) (clause other : List Lit) (lit : Lit)
    → has (resolvent pivot clause other) lit ≡ ((has clause lit && not (same_literal pivot lit)) || (has other lit && not (same_literal (opposite pivot) lit)))

-- a list of literals, each once, has the same literals
abbrev pub DistinctLiteralsAreSets : Type 0
DistinctLiteralsAreSets = (lits : List Lit) (lit : Lit) → has (distinct_literals lits) lit ≡ has lits lit
