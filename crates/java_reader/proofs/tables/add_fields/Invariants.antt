use Rattle.std.proofs.Common.{◌≡◌, map, take}
use Rattle.dj_tree.specs.Plain.{plain_field}
use Rattle.ifj_table.specs.Changes.{changed_at}
use Rattle.ifj_table.specs.Tables.{plain_table}
use Rattle.java_reader.specs.Making.{declared, with_fields}
use Rattle.java_reader.proofs.tables.add_fields.Given as goal

abbrev pub invariant-loop-field : goal.invariant-loop-field
invariant-loop-field l = plain_table l.table.table ≡ changed_at (plain_table l.fn.table.table) l.class (with_fields (take l.field-index (map (plain_field l.names) (declared l.fields))))
