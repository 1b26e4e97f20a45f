use Rattle.std.proofs.Common.{◌≡◌, ◌<◌, length, ap, arith}
use Rattle.ifj_table.specs.Tables.{table_names}
use Rattle.ifj_typing.specs.Bodies.{BreaksBodyOf}
use Rattle.ifj_typing.specs.Kinds.{text_of}
use Rattle.ifj_typing.proofs.Leasts.{element_next, all_elements}
use Rattle.ifj_typing.proofs.bodies.method_fault.Goals as goal

pub loop-body-preserved : goal.loop-body-preserved
loop-body-preserved c =
    let low : c.loop-body.body-index < length c.args.method.now.bodies.items = omega (arith, ap length c.deref-body-items.ensures.value) in
    element_next (BreaksBodyOf c.args.table.now (text_of (table_names c.args.table.now) c.args.class) c.args.method.now) c.args.method.now.bodies.items c.loop-body.body-index c.body-item.result c.loop-body.least c.in_ok-fault.fault c.lesser-least.result low (rw c.deref-body-items.ensures.value at c.body-item.is)
    c.loop-body.invariant c.in_ok-fault.ensures c.lesser-least.ensures

pub returns : goal.returns
returns c =
    let end : c.loop-body.body-index ≡ length c.args.method.now.bodies.items = omega (arith, ap length c.deref-body-items.ensures.value) in
    all_elements (BreaksBodyOf c.args.table.now (text_of (table_names c.args.table.now) c.args.class) c.args.method.now) c.args.method.now.bodies.items c.loop-body.body-index c.loop-body.least end c.loop-body.invariant
