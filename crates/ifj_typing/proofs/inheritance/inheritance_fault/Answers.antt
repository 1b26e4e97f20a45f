use Rattle.std.proofs.Common.{◌≡◌, ◌<◌, length, ap, arith}
use Rattle.ifj_table.specs.Tables.{table_classes}
use Rattle.ifj_typing.specs.Declarations.{BreaksMembers}
use Rattle.ifj_typing.proofs.Leasts.{element_next, all_elements}
use Rattle.ifj_typing.proofs.inheritance.inheritance_fault.Goals as goal

pub loop-class-preserved : goal.loop-class-preserved
loop-class-preserved c =
    let low : c.loop-class.class-index < length (table_classes c.args.table.now) = omega (arith, ap length c.classes-class-items.ensures.classes) in
    element_next (BreaksMembers c.args.table.now) (table_classes c.args.table.now) c.loop-class.class-index c.class-item.result c.loop-class.least c.members_fault.result c.lesser-least.result low (rw c.classes-class-items.ensures.classes at c.class-item.is) c.loop-class.invariant c.members_fault.ensures c.lesser-least.ensures

pub returns : goal.returns
returns c =
    let end : c.loop-class.class-index ≡ length (table_classes c.args.table.now) = omega (arith, ap length c.classes-class-items.ensures.classes) in
    all_elements (BreaksMembers c.args.table.now) (table_classes c.args.table.now) c.loop-class.class-index c.loop-class.least end c.loop-class.invariant
