use Rattle.std.proofs.Common.{◌≡◌, take}
use Rattle.ifj_table.specs.Tables.{plain_table, table_classes, table_nodes}
use Rattle.ifj_table.proofs.OwnNames.{Owned}
use Rattle.ifj_table.proofs.table.Table.own_parameters.Given as goal

abbrev pub invariant-loop-parameter : goal.invariant-loop-parameter
invariant-loop-parameter l =
    Owned l.from l.fn.self.names l.self.names (take l.parameter-index l.parameters) l.types.items l.names.items
    × (plain_table l.self ≡ plain_table l.fn.self)
    × (table_classes l.self ≡ table_classes l.fn.self)
    × (table_nodes l.self ≡ table_nodes l.fn.self)
