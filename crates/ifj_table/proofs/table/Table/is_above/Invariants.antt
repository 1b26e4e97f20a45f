use Rattle.std.proofs.Common.{◌<◌, length}
use Rattle.ifj_table.specs.Tables.{plain_table, name_text}
use Rattle.ifj_table.proofs.Climbing.{Climbed, directly_below}
use Rattle.ifj_table.proofs.table.Table.is_above.Given as goal

abbrev pub invariant-up : goal.invariant-up
invariant-up l =
    (l.at.0 < length l.self.names)
    × Climbed (plain_table l.self) (directly_below l.upper) l._turn (name_text l.self l.fn.lower.0) (name_text l.self l.at.0)
