use Rattle.std.proofs.Common.{◌<◌, length}
use Rattle.std.specs.Prelude.{All}
use Rattle.ifj_table.specs.Tables.{table_classes}
use Rattle.ifj_lineages.specs.Lineages.{AreLineages}
use Rattle.ifj_lineages.proofs.lineages.Lineages.go_down.Given as goal

abbrev pub invariant-down : goal.invariant-down
invariant-down l =
    record {
      lineages : AreLineages l.table l.self;
      within : All (λ number. number < length (table_classes l.table)) l.path.items;
    }

abbrev pub decreases-down : goal.decreases-down
decreases-down l = length l.path.items
