use Rattle.std.proofs.Common.{◌≡◌, take}
use Rattle.sat_solver.specs.Stores.{greatest_var}
use Rattle.sat_solver.proofs.store.greatest_of.Given as goal

abbrev pub invariant-loop-place : goal.invariant-loop-place
invariant-loop-place l = l.vars ≡ greatest_var (take l.place l.clauses)
