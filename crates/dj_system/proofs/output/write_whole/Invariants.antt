-- What was written so far is a front of the piece.
use Rattle.std.proofs.Common.{◌≤◌, length, take}
use Rattle.std.specs.Io.KnownBytes.{Appends}
use Rattle.dj_system.proofs.output.write_whole.Given as goal

abbrev pub invariant-pieces : goal.invariant-pieces
invariant-pieces g l =
    record {
      within : l.written ≤ length l.piece;
      front : Appends (g.W.Write.contents l.initial.writer) (g.W.Write.contents l.writer) (take l.written l.piece);
    }
