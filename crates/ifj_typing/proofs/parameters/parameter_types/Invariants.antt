use Rattle.std.proofs.Common.{take}
use Rattle.ifj_table.specs.Tables.{table_names}
use Rattle.ifj_typing.specs.Parameters.{TellsTypes, spot_texts}
use Rattle.ifj_typing.proofs.parameters.parameter_types.Given as goal

abbrev pub invariant-loop-number : goal.invariant-loop-number
invariant-loop-number l =
    TellsTypes (table_names l.table) (take l.number (spot_texts (table_names l.table) l.body.parameters)) (take l.number (spot_texts (table_names l.table) l.method.parameters)) l.found
