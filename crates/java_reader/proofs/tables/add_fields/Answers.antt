use Rattle.std.proofs.Common.{map}
use Rattle.std.proofs.lemmas.Option.{slice_get-get_or}
use Rattle.dj_tree.specs.Plain.{plain_field}
use Rattle.dj_tree.specs.WellFormed.{IsField}
use Rattle.ifj_table.specs.Tables.{plain_table}
use Rattle.java_reader.specs.Making.{declared}
use Rattle.java_reader.proofs.Filling.{no_field_yet, field_class, field_not_yet, field_added, declared_at, declared_has}
use Rattle.java_reader.proofs.tables.add_fields.Goals as goal

pub loop-field-init : goal.loop-field-init
loop-field-init c = no_field_yet (plain_table c.args.table.now.table) c.args.class.now c.requires.bare

pub add_field-requires-clause-known : goal.add_field-requires-clause-known
add_field-requires-clause-known c =
    declared_has c.args.fields.now c.loop-field.field-index _ (slice_get-get_or c.args.fields.now c.loop-field.field-index _ c.loop-field-test.true) (IsField c.args.names.now) c.requires.known

pub add_field-requires-clause-there : goal.add_field-requires-clause-there
add_field-requires-clause-there c =
    field_class (plain_table c.args.table.now.table) c.args.class.now c.requires.bare (plain_table c.loop-field.table.table) _ c.loop-field.invariant

pub add_field-requires-clause-absent : goal.add_field-requires-clause-absent
add_field-requires-clause-absent c =
    field_not_yet (plain_table c.args.table.now.table) c.args.class.now c.requires.bare (plain_table c.loop-field.table.table) (map (plain_field c.args.names.now) (declared c.args.fields.now)) c.loop-field.field-index _ c.requires.once
    (declared_at c.args.fields.now c.loop-field.field-index _ (slice_get-get_or c.args.fields.now c.loop-field.field-index _ c.loop-field-test.true) (plain_field c.args.names.now)) c.loop-field.invariant

pub loop-field-preserved : goal.loop-field-preserved
loop-field-preserved c =
    field_added (plain_table c.args.table.now.table) c.args.class.now c.requires.bare (plain_table c.loop-field.table.table) (plain_table c.add_field.new.self.table) (map (plain_field c.args.names.now) (declared c.args.fields.now)) c.loop-field.field-index _ c.requires.once
    (declared_at c.args.fields.now c.loop-field.field-index _ (slice_get-get_or c.args.fields.now c.loop-field.field-index _ c.loop-field-test.true) (plain_field c.args.names.now)) c.loop-field.invariant c.in_ok-add_field.ensures
