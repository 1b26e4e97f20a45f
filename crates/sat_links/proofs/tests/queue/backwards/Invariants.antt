use Rattle.std.proofs.Common.{◌≡◌, length}
use Rattle.sat_links.proofs.tests.queue.backwards.Given as goal

abbrev pub invariant-loop : goal.invariant-loop
invariant-loop g l = length l.values.items ≡ l.vars
