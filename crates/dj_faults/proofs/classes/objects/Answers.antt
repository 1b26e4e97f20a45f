use Rattle.std.proofs.Common.{refl}
use Rattle.std.proofs.lemmas.Option.{slice_get_read}
use Rattle.dj_faults.proofs.LeastLemmas.{among_next}
use Rattle.dj_faults.proofs.classes.objects.Goals as goal

pub loop-operation-preserved : goal.loop-operation-preserved
loop-operation-preserved c =
    let here = slice_get_read c.args.operations.now _ c.loop-operation.operation-index c.operation-item.result refl c.loop-operation-test.true c.operation-item.is in
    rw c.earlier-least.ensures (among_next _ c.args.operations.now c.loop-operation.operation-index _ _ _ here c.loop-operation.invariant c.object-here.ensures)
