use Rattle.std.proofs.Common.{subst, arith, get_or}
use Rattle.sat_links.specs.Queues.{IsQueue}
use Rattle.sat_links.proofs.Facts.{queue_has, queue_length}
use Rattle.sat_links.proofs.tests.queue.move_each.Goals as goal

pub move_to_end-requires : goal.move_to_end-requires
move_to_end-requires g c =
    queue_has c.args.vars c.loop-var.queue (get_or c.args.moved.now c.loop-var.var-index 0) c.loop-var.invariant (omega arith) (omega arith)

pub loop-var-preserved : goal.loop-var-preserved
loop-var-preserved g c = subst (λ vars. IsQueue vars c.move_to_end.new.self) (queue_length c.args.vars c.loop-var.queue c.loop-var.invariant) c.move_to_end.ensures.each_once
