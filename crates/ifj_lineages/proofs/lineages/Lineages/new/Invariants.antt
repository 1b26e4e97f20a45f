use Rattle.std.proofs.Common.{◌≡◌, length}
use Rattle.ifj_table.specs.Tables.{table_classes}
use Rattle.ifj_lineages.specs.Lineages.{AreLineages}
use Rattle.ifj_lineages.proofs.lineages.Lineages.new.Given as goal

abbrev pub invariant-starts : goal.invariant-starts
invariant-starts l =
    record {
      lineages : AreLineages l.table l.all;
      seen : length l.seen.items ≡ length (table_classes l.table);
      all_classes : l.count ≡ length (table_classes l.table);
    }
