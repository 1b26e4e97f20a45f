use Rattle.std.proofs.Common.{map, refl}
use Rattle.std.proofs.lemmas.Option.{slice_get_read}
use Rattle.dj_tree.specs.Plain.{plain_class}
use Rattle.ifj_table.specs.Tables.{plain_table}
use Rattle.java_reader.specs.Making.{declared, IsReady}
use Rattle.java_reader.proofs.Filling.{class_not_yet, class_added, declared_at, declared_has}
use Rattle.java_reader.proofs.tables.add_classes.Goals as goal

pub add_class-requires-clause-ready : goal.add_class-requires-clause-ready
add_class-requires-clause-ready c =
    let there = slice_get_read c.args.classes.now _ c.loop-class.class-index c.class-item.result refl c.loop-class-test.true c.class-item.is in
    declared_has c.args.classes.now c.loop-class.class-index c.class-item.result there (IsReady c.args.source.now.names c.args.source.now.exprs) c.requires.ready

pub add_class-requires-clause-absent : goal.add_class-requires-clause-absent
add_class-requires-clause-absent c =
    let s = c.args.source.now in
    let there = slice_get_read c.args.classes.now _ c.loop-class.class-index c.class-item.result refl c.loop-class-test.true c.class-item.is in
    class_not_yet (plain_table c.loop-class.table.table) (map (plain_class s.names s.exprs) (declared c.args.classes.now)) c.loop-class.class-index (plain_class s.names s.exprs c.class-item.result.declaration.now) c.requires.once
    (declared_at c.args.classes.now c.loop-class.class-index c.class-item.result there (plain_class s.names s.exprs)) c.loop-class.invariant

pub loop-class-preserved : goal.loop-class-preserved
loop-class-preserved c =
    let s = c.args.source.now in
    let there = slice_get_read c.args.classes.now _ c.loop-class.class-index c.class-item.result refl c.loop-class-test.true c.class-item.is in
    class_added (plain_table c.loop-class.table.table) (plain_table c.add_class.new.table.table) (map (plain_class s.names s.exprs) (declared c.args.classes.now)) c.loop-class.class-index (plain_class s.names s.exprs c.class-item.result.declaration.now) c.requires.once
    (declared_at c.args.classes.now c.loop-class.class-index c.class-item.result there (plain_class s.names s.exprs)) c.loop-class.invariant c.in_ok-add_class.ensures
