use Rattle.std.proofs.Common.{map}
use Rattle.dj_line.specs.Lines.{plain_line}
use Rattle.dj_line.proofs.Choosing.{ChoosesFirst}
use Rattle.dj_line.proofs.line.Line.choose.Given as goal

abbrev pub invariant-loop-k : goal.invariant-loop-k
invariant-loop-k l = ChoosesFirst (plain_line l.self) (map (λ p. p.now) l.pieces) l.k l.chosen.items
