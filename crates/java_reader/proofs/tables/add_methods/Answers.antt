use Rattle.std.proofs.Common.{map, refl}
use Rattle.std.proofs.lemmas.Option.{slice_get_read}
use Rattle.dj_tree.specs.Plain.{plain_method}
use Rattle.dj_tree.specs.WellFormed.{IsMethod}
use Rattle.dj_calculus.specs.Expressions.{IsExpression}
use Rattle.ifj_table.specs.Tables.{plain_table}
use Rattle.java_reader.specs.Making.{declared}
use Rattle.java_reader.proofs.Filling.{no_method_yet, method_class, method_not_yet, method_added, declared_at, declared_has}
use Rattle.java_reader.proofs.tables.add_methods.Goals as goal

pub loop-method-init : goal.loop-method-init
loop-method-init c = no_method_yet (plain_table c.args.table.now.table) c.args.class.now c.requires.bare

pub add_method-requires-clause-known : goal.add_method-requires-clause-known
add_method-requires-clause-known c =
    let there = slice_get_read c.args.methods.now _ c.loop-method.method-index c.method-item.result refl c.loop-method-test.true c.method-item.is in
    declared_has c.args.methods.now c.loop-method.method-index c.method-item.result there (IsMethod c.args.source.now.names c.args.source.now.exprs) c.requires.known

pub add_method-requires-clause-expression : goal.add_method-requires-clause-expression
add_method-requires-clause-expression c =
    let there = slice_get_read c.args.methods.now _ c.loop-method.method-index c.method-item.result refl c.loop-method-test.true c.method-item.is in
    declared_has c.args.methods.now c.loop-method.method-index c.method-item.result there (λ m. IsExpression (plain_method c.args.source.now.names c.args.source.now.exprs m).body) c.requires.expressions

pub add_method-requires-clause-there : goal.add_method-requires-clause-there
add_method-requires-clause-there c =
    method_class (plain_table c.args.table.now.table) c.args.class.now c.requires.bare (plain_table c.loop-method.table.table) _ c.loop-method.invariant

pub add_method-requires-clause-absent : goal.add_method-requires-clause-absent
add_method-requires-clause-absent c =
    let s = c.args.source.now in
    let there = slice_get_read c.args.methods.now _ c.loop-method.method-index c.method-item.result refl c.loop-method-test.true c.method-item.is in
    method_not_yet (plain_table c.args.table.now.table) c.args.class.now c.requires.bare (plain_table c.loop-method.table.table) (map (plain_method s.names s.exprs) (declared c.args.methods.now)) c.loop-method.method-index
    (plain_method s.names s.exprs c.method-item.result.declaration.now) c.requires.once
    (declared_at c.args.methods.now c.loop-method.method-index c.method-item.result there (plain_method s.names s.exprs)) c.loop-method.invariant

pub loop-method-preserved : goal.loop-method-preserved
loop-method-preserved c =
    let s = c.args.source.now in
    let there = slice_get_read c.args.methods.now _ c.loop-method.method-index c.method-item.result refl c.loop-method-test.true c.method-item.is in
    method_added (plain_table c.args.table.now.table) c.args.class.now c.requires.bare (plain_table c.loop-method.table.table) (plain_table c.add_method.new.self.table) (map (plain_method s.names s.exprs) (declared c.args.methods.now)) c.loop-method.method-index
    (plain_method s.names s.exprs c.method-item.result.declaration.now) c.requires.once
    (declared_at c.args.methods.now c.loop-method.method-index c.method-item.result there (plain_method s.names s.exprs)) c.loop-method.invariant c.in_ok-add_method.ensures
