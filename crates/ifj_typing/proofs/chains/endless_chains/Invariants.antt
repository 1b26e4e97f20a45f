use Rattle.std.proofs.Common.{◌≡◌, length}
use Rattle.ifj_table.specs.Tables.{table_classes}
use Rattle.ifj_typing.specs.Chains.{AreTold, AreWalked}
use Rattle.ifj_typing.proofs.chains.endless_chains.Given as goal

abbrev pub invariant-starts : goal.invariant-starts
invariant-starts l =
    record {
      count : length l.endless.items ≡ l.start;
      told : AreTold l.table l.endless.items;
      walked : AreWalked l.table l.walks.items l.start;
      all : l.count ≡ length (table_classes l.table);
    }
