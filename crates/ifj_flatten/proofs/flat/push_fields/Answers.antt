use Rattle.ifj_table.specs.Tables.{plain_table}
use Rattle.dj_tree.proofs.Filling.{at_index}
use Rattle.ifj_flatten.proofs.Building.{fields_there, field_new, field_more, no_fields}
use Rattle.ifj_flatten.proofs.flat.push_fields.Goals as goal

pub loop-field-init : goal.loop-field-init
loop-field-init c = no_fields c.args.from.now (plain_table c.args.flat.now.table) c.args.class.now c.requires.there.0 c.requires.there.1 c.requires.there.2

pub add_field-requires-clause-there : goal.add_field-requires-clause-there
add_field-requires-clause-there c =
    fields_there c.args.from.now (plain_table c.args.flat.now.table) c.args.class.now c.requires.there.0 c.requires.there.1 (plain_table c.loop-field.flat.table) c.args.fields.now c.loop-field.field-index c.loop-field.invariant

pub add_field-requires-clause-absent : goal.add_field-requires-clause-absent
add_field-requires-clause-absent c =
    field_new c.args.from.now (plain_table c.args.flat.now.table) c.args.class.now c.requires.there.0 c.requires.there.1 (plain_table c.loop-field.flat.table) c.args.fields.now c.loop-field.field-index c.loop-field.invariant
    _ c.requires.rising (at_index c.args.fields.now c.loop-field.field-index _ c.loop-field-test.true)

pub loop-field-preserved : goal.loop-field-preserved
loop-field-preserved c =
    field_more c.args.from.now (plain_table c.args.flat.now.table) c.args.class.now c.requires.there.0 c.requires.there.1 (plain_table c.loop-field.flat.table) c.args.fields.now c.loop-field.field-index c.loop-field.invariant
    _ c.requires.rising (at_index c.args.fields.now c.loop-field.field-index _ c.loop-field-test.true) (plain_table c.add_field.new.self.table) c.in_ok-add_field.ensures
