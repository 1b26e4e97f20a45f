use Rattle.std.proofs.Common.{◌≡◌, ◌<◌, length, ap, arith}
use Rattle.ifj_table.specs.Entries.{text_at}
use Rattle.ifj_table.specs.Tables.{table_names}
use Rattle.ifj_typing.specs.Bodies.{BreaksMethodOf}
use Rattle.ifj_typing.proofs.Leasts.{element_next, all_elements}
use Rattle.ifj_typing.proofs.bodies.class_fault.Goals as goal

pub loop-method-preserved : goal.loop-method-preserved
loop-method-preserved c =
    let low : c.loop-method.method-index < length c.args.class.now.methods.items = omega (arith, ap length c.deref-method-items.ensures.value) in
    element_next (BreaksMethodOf c.args.table.now (text_at (table_names c.args.table.now) c.args.class.now.spot)) c.args.class.now.methods.items c.loop-method.method-index c.method-item.result c.loop-method.least c.in_ok-fault.fault c.lesser-least.result low (rw c.deref-method-items.ensures.value at c.method-item.is)
    c.loop-method.invariant c.in_ok-fault.ensures c.lesser-least.ensures

pub returns : goal.returns
returns c =
    let end : c.loop-method.method-index ≡ length c.args.class.now.methods.items = omega (arith, ap length c.deref-method-items.ensures.value) in
    all_elements (BreaksMethodOf c.args.table.now (text_at (table_names c.args.table.now) c.args.class.now.spot)) c.args.class.now.methods.items c.loop-method.method-index c.loop-method.least end c.loop-method.invariant
