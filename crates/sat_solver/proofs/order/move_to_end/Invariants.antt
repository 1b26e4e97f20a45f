use Rattle.std.proofs.Common.{length}
use Rattle.sat_links.specs.Queues.{IsQueue}
use Rattle.sat_solver.proofs.order.move_to_end.Given as goal

abbrev pub invariant-loop-lit : goal.invariant-loop-lit
invariant-loop-lit l = IsQueue (length l.initial.queue) l.queue
