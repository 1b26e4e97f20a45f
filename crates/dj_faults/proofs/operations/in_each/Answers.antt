use Rattle.std.proofs.Common.{refl}
use Rattle.std.proofs.lemmas.Option.{slice_get_read}
use Rattle.dj_faults.proofs.InsidePlaces.{each_next, nowhere_among}
use Rattle.dj_faults.proofs.operations.in_each.Goals as goal

pub loop-operation-init : goal.loop-operation-init
loop-operation-init c = nowhere_among _ c.nowhere-least.result c.args.operations.now c.nowhere-least.ensures

pub loop-operation-preserved : goal.loop-operation-preserved
loop-operation-preserved c =
    let here = slice_get_read c.args.operations.now _ c.loop-operation.operation-index c.operation-item.result refl c.loop-operation-test.true c.operation-item.is in
    each_next _ c.args.operations.now c.loop-operation.operation-index _ _ _ _ here c.earlier_each-least.ensures c.loop-operation.invariant c.in_ok-here.ensures
