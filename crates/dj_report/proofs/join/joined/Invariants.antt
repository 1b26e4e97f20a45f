-- The text so far with the pieces that are left is the whole text.
use Rattle.std.proofs.Common.{◌≡◌, ◌++◌, map, drop}
use Rattle.dj_report.specs.Join.{joined}
use Rattle.dj_report.proofs.join.joined.Given as goal

abbrev pub invariant-loop-piece : goal.invariant-loop-piece
invariant-loop-piece l = l.text.items ++ joined (map (λ piece. piece.now) (drop l.piece-index l.pieces)) ≡ joined (map (λ piece. piece.now) l.pieces)
