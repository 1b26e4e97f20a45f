use Rattle.std.proofs.Common.{◌<◌, length}
use Rattle.std.specs.FinMap.{get}
use Rattle.ifj_table.specs.Tables.{plain_table, name_text}
use Rattle.ifj_table.proofs.Climbing.{Climbed}
use Rattle.ifj_table.proofs.table.Table.find_field.Given as goal

abbrev pub invariant-up : goal.invariant-up
invariant-up l =
    (l.at.0 < length l.self.names)
    × Climbed (plain_table l.self) (λ entry. get entry.fields l.text) l._turn (name_text l.self l.fn.class.0) (name_text l.self l.at.0)
