use Rattle.std.proofs.Common.{◌≡◌, false, length, get_or, subst, arith}
use Rattle.sat_clauses.specs.declared.literal.Lit.{Lit}
use Rattle.sat_links.specs.Queues.{IsQueue}
use Rattle.sat_solver.proofs.QueueLemmas.{queue_length, in_queue}
use Rattle.sat_solver.proofs.order.move_to_end.Goals as goal

pub move_to_end-requires : goal.move_to_end-requires
move_to_end-requires c =
    let lit : Lit = get_or c.args.clause.now c.loop-lit.lit-index (record { var = 0; positive = false }) in
    let within = c.requires.within c.loop-lit.lit-index (record { var = 0; positive = false }) (omega arith) in
    in_queue (length c.args.queue.now) c.loop-lit.queue c.loop-lit.invariant lit.var within.0 within.1

pub loop-lit-preserved : goal.loop-lit-preserved
loop-lit-preserved c =
    let many : length c.loop-lit.queue ≡ length c.args.queue.now = queue_length (length c.args.queue.now) c.loop-lit.queue c.loop-lit.invariant in
    subst (λ n. IsQueue n c.move_to_end.new.self) many c.move_to_end.ensures.each_once
