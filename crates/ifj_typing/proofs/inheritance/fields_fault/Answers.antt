use Rattle.std.proofs.Common.{◌≡◌, ◌<◌, length, ap, arith}
use Rattle.ifj_typing.specs.Declarations.{HiddenField}
use Rattle.ifj_typing.proofs.Leasts.{index_next, all_elements}
use Rattle.ifj_typing.proofs.inheritance.fields_fault.Goals as goal

pub loop-field-preserved : goal.loop-field-preserved
loop-field-preserved c =
    let low : c.loop-field.field-index < length c.args.class.now.fields.items = omega (arith, ap length c.deref-field-items.ensures.value) in
    index_next (HiddenField c.args.table.now c.args.class.now) c.args.class.now.fields.items c.loop-field.field-index _ c.loop-field.least c.hidden_fault.result c.lesser-least.result low c.loop-field.invariant (rw c.deref-field-items.ensures.value at c.hidden_fault.ensures) c.lesser-least.ensures

pub returns : goal.returns
returns c =
    let end : c.loop-field.field-index ≡ length c.args.class.now.fields.items = omega (arith, ap length c.deref-field-items.ensures.value) in
    all_elements (HiddenField c.args.table.now c.args.class.now) c.args.class.now.fields.items c.loop-field.field-index c.loop-field.least end c.loop-field.invariant
