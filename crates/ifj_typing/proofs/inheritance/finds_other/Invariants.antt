use Rattle.std.proofs.Common.{ℕ, ◌<◌, ◌≤◌, length}
use Rattle.ifj_table.specs.Entries.{text_at, plain_signature}
use Rattle.ifj_table.specs.Tables.{plain_table, table_names}
use Rattle.ifj_table.proofs.Climbing.{Climbed}
use Rattle.ifj_typing.specs.Kinds.{text_of}
use Rattle.ifj_lineages.proofs.Overriding.{differing}
use Rattle.ifj_typing.proofs.inheritance.finds_other.Given as goal

abbrev pub invariant-up : goal.invariant-up
invariant-up l =
    record {
      known : l.at.0 < length (table_names l.table);
      count : ℕ;
      enough : l._turn ≤ count;
      climbed : Climbed (plain_table l.table) (differing (text_at (table_names l.table) l.method.spot) (plain_signature (table_names l.table) l.method)) count
          (text_of (table_names l.table) l.fn.class) (text_of (table_names l.table) l.at);
    }
