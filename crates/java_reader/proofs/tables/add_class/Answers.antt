use Rattle.ifj_table.specs.Tables.{plain_table}
use Rattle.ifj_table.proofs.MemberLemmas.{on_ok}
use Rattle.java_reader.specs.Making.{declared}
use Rattle.java_reader.proofs.Adding.{fields_known, fields_once, methods_known, methods_expressions, methods_once, without_fields, without_methods, class_is}
use Rattle.java_reader.proofs.Ready.{sorted}
use Rattle.java_reader.proofs.tables.add_class.Goals as goal

pub add_fields-requires-clause-bare : goal.add_fields-requires-clause-bare
add_fields-requires-clause-bare c =
    let s = c.args.source.now in
    without_fields s.names s.exprs c.args.class.now c.requires.ready (plain_table c.args.table.now.table) (plain_table c.add_class.new.self.table) c.text-name.result.now c.text-name.ensures c.in_ok-add_class.ensures

pub add_fields-requires-clause-known : goal.add_fields-requires-clause-known
add_fields-requires-clause-known c =
    let s = c.args.source.now in
    fields_known s.names s.exprs c.args.class.now c.requires.ready (declared c.as_slice-3.result.now) (sorted c.as_slice.ensures c.as_slice-3.ensures.value c.in_ok-fields.ensures)

pub add_fields-requires-clause-once : goal.add_fields-requires-clause-once
add_fields-requires-clause-once c =
    let s = c.args.source.now in
    fields_once s.names s.exprs c.args.class.now c.requires.ready (declared c.as_slice-3.result.now) (sorted c.as_slice.ensures c.as_slice-3.ensures.value c.in_ok-fields.ensures)

pub add_methods-requires-clause-bare : goal.add_methods-requires-clause-bare
add_methods-requires-clause-bare c =
    let s = c.args.source.now in
    without_methods s.names s.exprs c.args.class.now c.requires.ready (plain_table c.args.table.now.table) (plain_table c.add_class.new.self.table) c.text-name.result.now c.text-name.ensures c.in_ok-add_class.ensures
    (plain_table c.add_fields.new.table.table) (declared c.as_slice-3.result.now) c.in_ok-add_fields.ensures

pub add_methods-requires-clause-known : goal.add_methods-requires-clause-known
add_methods-requires-clause-known c =
    let s = c.args.source.now in
    methods_known s.names s.exprs c.args.class.now c.requires.ready (declared c.as_slice-4.result.now) (sorted c.as_slice-2.ensures c.as_slice-4.ensures.value c.in_ok-methods.ensures)

pub add_methods-requires-clause-expressions : goal.add_methods-requires-clause-expressions
add_methods-requires-clause-expressions c =
    let s = c.args.source.now in
    methods_expressions s.names s.exprs c.args.class.now c.requires.ready (declared c.as_slice-4.result.now) (sorted c.as_slice-2.ensures c.as_slice-4.ensures.value c.in_ok-methods.ensures)

pub add_methods-requires-clause-once : goal.add_methods-requires-clause-once
add_methods-requires-clause-once c =
    let s = c.args.source.now in
    methods_once s.names s.exprs c.args.class.now c.requires.ready (declared c.as_slice-4.result.now) (sorted c.as_slice-2.ensures c.as_slice-4.ensures.value c.in_ok-methods.ensures)

pub returns : goal.returns
returns c =
    let s = c.args.source.now in
    let class = c.args.class.now in
    on_ok c.add_methods.result c.add_methods.ensures
    (λ third. class_is s.names s.exprs class c.requires.ready (plain_table c.args.table.now.table) (plain_table c.add_class.new.self.table) c.text-name.result.now c.text-name.ensures c.in_ok-add_class.ensures
    (plain_table c.add_fields.new.table.table) (declared c.as_slice-3.result.now) c.in_ok-add_fields.ensures (plain_table c.add_methods.new.table.table) (declared c.as_slice-4.result.now) third
    (sorted c.as_slice.ensures c.as_slice-3.ensures.value c.in_ok-fields.ensures)
    (sorted c.as_slice-2.ensures c.as_slice-4.ensures.value c.in_ok-methods.ensures))
