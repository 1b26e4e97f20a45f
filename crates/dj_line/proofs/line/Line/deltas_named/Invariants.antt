use Rattle.std.proofs.Common.{map, take}
use Rattle.dj_line.specs.Lines.{plain_line}
use Rattle.dj_line.specs.OrderWords.{AreNamed}
use Rattle.dj_line.proofs.line.Line.deltas_named.Given as goal

abbrev pub invariant-loop-k : goal.invariant-loop-k
invariant-loop-k l = AreNamed (plain_line l.self) (take l.k (map (λ p. p.now) l.pieces)) l.deltas.items
