use Rattle.std.proofs.Common.{◌≡◌, take}
use Rattle.ifj_table.specs.Changes.{changed_at}
use Rattle.ifj_table.specs.Entries.{fields_of}
use Rattle.ifj_table.specs.Tables.{plain_table}
use Rattle.ifj_flatten.specs.Changes.{with_fields}
use Rattle.ifj_flatten.proofs.flat.push_fields.Given as goal

abbrev pub invariant-loop-field : goal.invariant-loop-field
invariant-loop-field l = plain_table l.flat.table ≡ changed_at (plain_table l.fn.flat.table) l.class (with_fields (fields_of l.from (take l.field-index l.fields)))
