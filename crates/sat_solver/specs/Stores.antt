-- Stores of clauses.
use Rattle.std.specs.Prelude.{ℕ, List, max, fold}
use Rattle.sat_clauses.specs.declared.literal.Lit.{Lit}
use Rattle.sat_links.specs.declared.watches.Watch.{Watch}
use Rattle.sat_solver.specs.declared.pair.Pair.{Pair}

-- what contracts see of a store: its clauses, the number of its variables, the pairs of watched literals by their numbers,
-- the lists of watches, and the places of the clauses that watch nothing, the first of which were seen
pub record StoreState : Type 0 where
  pub clauses : List (List Lit)
  pub vars : ℕ
  pub pairs : List Pair
  pub lists : List (List Watch)
  pub short : List ℕ
  pub seen : ℕ

-- the greatest variable that stands in literals, or 0
abbrev pub greatest_in : List Lit → ℕ
greatest_in lits = fold (λ greatest lit. max greatest lit.var) 0 lits

-- the greatest variable that stands in clauses, or 0
abbrev pub greatest_var : List (List Lit) → ℕ
greatest_var clauses = fold (λ greatest clause. max greatest (greatest_in clause)) 0 clauses
