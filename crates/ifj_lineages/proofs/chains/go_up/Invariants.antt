use Rattle.std.proofs.Common.{◌≡◌, ◌<◌, not, count_by, length}
use Rattle.std.specs.Prelude.{All}
use Rattle.ifj_table.specs.Tables.{table_classes}
use Rattle.ifj_lineages.proofs.chains.go_up.Given as goal

abbrev pub invariant-up : goal.invariant-up
invariant-up l =
    record {
      within : l.at < length (table_classes l.table);
      all : length l.seen.items ≡ length (table_classes l.table);
      path : All (λ number. number < length (table_classes l.table)) l.path.items;
    }

abbrev pub decreases-up : goal.decreases-up
decreases-up l = count_by not l.seen.items
