use Rattle.std.proofs.Common.{◌∙◌, map, sym}
use Rattle.dj_line.specs.Lines.{plain_line}
use Rattle.dj_line.proofs.OrderWords.{unknown_here, named_next, pushed}
use Rattle.dj_line.proofs.line.Line.deltas_named.Goals as goal
use Rattle.dj_line.proofs.Lists.{piece_at}

pub returns-in_default : goal.returns-in_default
returns-in_default c =
    let line = c.args.self.now in
    unknown_here (plain_line line) line.accepted (map (λ p. p.now) c.args.pieces.now) c.loop-k.k c.loop-k.deltas.items c.loop-k.invariant _ (piece_at c.args.pieces.now c.loop-k.k _ c.loop-k-test.true) c.in_default.ensures

pub loop-k-preserved : goal.loop-k-preserved
loop-k-preserved c =
    let line = c.args.self.now in
    named_next (plain_line line) line.accepted (map (λ p. p.now) c.args.pieces.now) c.loop-k.k c.loop-k.deltas.items c.loop-k.invariant _ (piece_at c.args.pieces.now c.loop-k.k _ c.loop-k-test.true) c.in-Some.delta _ c.in-Some.ensures
    (pushed c.push.result _ _ _ (sym c.is_err.ensures.value ∙ c.if-is_err.false) c.push.ensures.items)
