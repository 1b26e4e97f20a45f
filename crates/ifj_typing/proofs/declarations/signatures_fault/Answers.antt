use Rattle.std.proofs.Common.{◌≡◌, ◌<◌, length, ap, arith}
use Rattle.ifj_typing.specs.Declarations.{UnknownInSignature}
use Rattle.ifj_typing.proofs.Leasts.{element_next, all_elements}
use Rattle.ifj_typing.proofs.declarations.signatures_fault.Goals as goal

pub loop-method-preserved : goal.loop-method-preserved
loop-method-preserved c =
    let low : c.loop-method.method-index < length c.args.class.now.methods.items = omega (arith, ap length c.deref-method-items.ensures.value) in
    element_next (UnknownInSignature c.args.table.now) c.args.class.now.methods.items c.loop-method.method-index c.method-item.result c.loop-method.least c.signature_fault.result c.lesser-least.result low (rw c.deref-method-items.ensures.value at c.method-item.is) c.loop-method.invariant c.signature_fault.ensures c.lesser-least.ensures

pub returns : goal.returns
returns c =
    let end : c.loop-method.method-index ≡ length c.args.class.now.methods.items = omega (arith, ap length c.deref-method-items.ensures.value) in
    all_elements (UnknownInSignature c.args.table.now) c.args.class.now.methods.items c.loop-method.method-index c.loop-method.least end c.loop-method.invariant
