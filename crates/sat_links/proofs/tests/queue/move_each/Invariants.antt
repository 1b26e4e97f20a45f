use Rattle.sat_links.specs.Queues.{IsQueue}
use Rattle.sat_links.proofs.tests.queue.move_each.Given as goal

abbrev pub invariant-loop-var : goal.invariant-loop-var
invariant-loop-var g l = IsQueue l.vars l.queue
