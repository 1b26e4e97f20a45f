use Rattle.std.proofs.Common.{◌≡◌, ◌<◌, false, length, get_or, ap, subst, arith}
use Rattle.std.specs.Prelude.{Decides}
use Rattle.std.proofs.lemmas.Option.{slice_get-get_or}
use Rattle.dj_calculus.specs.TableRules.{IsEndless}
use Rattle.ifj_table.specs.Tables.{plain_table, table_classes}
use Rattle.ifj_table.proofs.TableLemmas.{element_is}
use Rattle.ifj_typing.specs.Declarations.{BreaksDeclaration}
use Rattle.ifj_typing.proofs.Leasts.{element_next, all_elements}
use Rattle.ifj_typing.proofs.Walking.{class_named}
use Rattle.ifj_typing.proofs.declarations.classes_fault.Goals as goal

pub loop-number-preserved : goal.loop-number-preserved
loop-number-preserved c =
    let low : c.loop-number.number < length (table_classes c.args.table.now) = omega (arith, ap length c.classes-class-items.ensures.classes) in
    element_next (BreaksDeclaration c.args.table.now) (table_classes c.args.table.now) c.loop-number.number c.class-item.result c.loop-number.least c.declaration_fault.result c.lesser-least.result low (rw c.classes-class-items.ensures.classes at c.class-item.is) c.loop-number.invariant c.declaration_fault.ensures c.lesser-least.ensures

pub returns : goal.returns
returns c =
    let end : c.loop-number.number ≡ length (table_classes c.args.table.now) = omega (arith, ap length c.classes-class-items.ensures.classes) in
    all_elements (BreaksDeclaration c.args.table.now) (table_classes c.args.table.now) c.loop-number.number c.loop-number.least end c.loop-number.invariant

pub declaration_fault-requires-clause-chain : goal.declaration_fault-requires-clause-chain
declaration_fault-requires-clause-chain c =
    let t = c.args.table.now in
    let n = c.loop-number.number in
    let low : n < length (table_classes t) = omega (arith, ap length c.classes-class-items.ensures.classes) in
    let stands = element_is (table_classes t) n c.class-item.result low (rw c.classes-class-items.ensures.classes at c.class-item.is) in
    let at : n < length c.args.endless.now = omega (arith, low, c.requires.all) in
    subst (λ k. Decides (get_or c.args.endless.now n false) (IsEndless (plain_table t) k)) (class_named t n c.class-item.result stands) (c.requires.told n _ (slice_get-get_or c.args.endless.now n false at))
