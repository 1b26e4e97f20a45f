use Rattle.std.proofs.Common.{◌≡◌, ◌<◌, length, ap, arith}
use Rattle.ifj_typing.specs.Declarations.{OverrideDiffers}
use Rattle.ifj_typing.proofs.Leasts.{element_next, all_elements}
use Rattle.ifj_typing.proofs.inheritance.methods_fault.Goals as goal

pub loop-method-preserved : goal.loop-method-preserved
loop-method-preserved c =
    let low : c.loop-method.method-index < length c.args.class.now.methods.items = omega (arith, ap length c.deref-method-items.ensures.value) in
    element_next (OverrideDiffers c.args.table.now c.args.class.now) c.args.class.now.methods.items c.loop-method.method-index c.method-item.result c.loop-method.least c.override_fault.result c.lesser-least.result low (rw c.deref-method-items.ensures.value at c.method-item.is) c.loop-method.invariant c.override_fault.ensures c.lesser-least.ensures

pub returns : goal.returns
returns c =
    let end : c.loop-method.method-index ≡ length c.args.class.now.methods.items = omega (arith, ap length c.deref-method-items.ensures.value) in
    all_elements (OverrideDiffers c.args.table.now c.args.class.now) c.args.class.now.methods.items c.loop-method.method-index c.loop-method.least end c.loop-method.invariant
