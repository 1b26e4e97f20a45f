use Rattle.std.proofs.Common.{refl}
use Rattle.std.proofs.lemmas.Option.{slice_get_read}
use Rattle.dj_faults.proofs.InsidePlaces.{each_next, nowhere_among}
use Rattle.dj_faults.proofs.operations.in_class.Goals as goal

pub loop-method-init : goal.loop-method-init
loop-method-init c = nowhere_among _ c.nowhere-least.result c.args.methods.now c.nowhere-least.ensures

pub loop-method-preserved : goal.loop-method-preserved
loop-method-preserved c =
    let here = slice_get_read c.args.methods.now _ c.loop-method.method-index c.method-item.result refl c.loop-method-test.true c.method-item.is in
    each_next _ c.args.methods.now c.loop-method.method-index _ _ _ _ here c.earlier_each-least.ensures c.loop-method.invariant c.in_ok-here.ensures
