use Rattle.std.proofs.Common.{◌≤◌}
use Rattle.sat_solver.proofs.order.free_before.Given as goal

abbrev pub invariant-back : goal.invariant-back
invariant-back l = (1 ≤ l.var) × (l.var ≤ l.trail.vars)
