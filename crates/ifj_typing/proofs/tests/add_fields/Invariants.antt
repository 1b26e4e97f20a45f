use Rattle.std.proofs.Common.{◌+◌, ◌*◌, ◌≤◌, length}
use Rattle.ifj_table.specs.Tables.{table_names}
use Rattle.ifj_typing.proofs.tests.add_fields.Given as goal

abbrev pub invariant-loop-number : goal.invariant-loop-number
invariant-loop-number l = length (table_names l.table) ≤ length (table_names l.fn.table) + 2 * l.number
