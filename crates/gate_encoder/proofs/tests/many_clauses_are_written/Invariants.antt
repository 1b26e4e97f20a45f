use Rattle.std.proofs.Common.{◌≤◌, length}
use Rattle.gate_encoder.proofs.tests.many_clauses_are_written.Given as goal

abbrev pub invariant-loop-number : goal.invariant-loop-number
invariant-loop-number g l = 4 ≤ length l.gates.keys
