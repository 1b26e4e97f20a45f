use Rattle.std.proofs.Common.{◌≡◌}
use Rattle.sat_solver.specs.Pairing.{Paired}
use Rattle.sat_solver.proofs.tests.a_trail_propagates_decides_and_jumps_back.Given as goal

abbrev pub invariant-loop-expected : goal.invariant-loop-expected
invariant-loop-expected g l = Paired l.trail l.store × (l.trail.vars ≡ 3)
