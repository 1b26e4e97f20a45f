use Rattle.std.proofs.Common.{◌≡◌, ◌≤◌, ◌+◌}
use Rattle.dj_names.specs.Place.{line_ends_before}
use Rattle.dj_names.proofs.Lines.{column_at}
use Rattle.dj_names.proofs.place.place_of.Given as goal

abbrev pub invariant-loop-at : goal.invariant-loop-at
invariant-loop-at l =
    record {
      line : l.line ≡ line_ends_before l.bytes l.at + 1;
      column : l.column ≡ column_at l.bytes l.at;
      line_fits : l.line ≤ l.at + 1;
      column_fits : l.column ≤ l.at + 1;
    }
