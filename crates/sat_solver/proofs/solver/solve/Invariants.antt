use Rattle.std.proofs.Common.{◌≡◌, ◌-◌, ◌^◌}
use Rattle.sat_clauses.specs.Derivations.{Follow}
use Rattle.sat_solver.specs.Stores.{greatest_var}
use Rattle.sat_solver.specs.Searches.{IsSearch, steps_in, weight_of}
use Rattle.sat_solver.proofs.solver.solve.Given as goal

abbrev pub invariant-turns : goal.invariant-turns
invariant-turns l = record {
  search : IsSearch l.search;
  follow : Follow l.clauses (steps_in l.search) l.search.store.clauses;
  vars : l.search.trail.vars ≡ greatest_var l.clauses;
}

abbrev pub decreases-turns : goal.decreases-turns
decreases-turns l = 3 ^ l.search.trail.vars - weight_of l.search
