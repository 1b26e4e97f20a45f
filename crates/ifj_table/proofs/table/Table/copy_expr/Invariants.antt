use Rattle.std.proofs.Common.{◌≡◌}
use Rattle.ifj_table.specs.Tables.{plain_table, table_classes}
use Rattle.ifj_table.proofs.Copying.{Copied}
use Rattle.ifj_table.proofs.table.Table.copy_expr.Given as goal

abbrev pub invariant-loop-number : goal.invariant-loop-number
invariant-loop-number l =
    Copied l.from l.exprs l.fn.root.0 l.number l.fn.self.names l.self.names l.fn.self.exprs l.self.exprs l.own.0
    × (plain_table l.self ≡ plain_table l.fn.self)
    × (table_classes l.self ≡ table_classes l.fn.self)
