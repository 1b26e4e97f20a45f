use Rattle.std.proofs.Common.{◌+◌, ◌*◌, ◌≤◌, length}
use Rattle.ifj_table.specs.Tables.{table_names, table_nodes}
use Rattle.ifj_typing.proofs.method_tests.overriding.Given as goal

abbrev pub invariant-loop-number : goal.invariant-loop-number
invariant-loop-number l =
    record {
      names : length (table_names l.table) ≤ 6 + 50 * l.number;
      nodes : length (table_nodes l.table) ≤ 20 * l.number;
    }
