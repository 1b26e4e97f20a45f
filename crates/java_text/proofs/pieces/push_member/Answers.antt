use Rattle.std.proofs.Common.{refl, arith}
use Rattle.std.proofs.lemmas.Result.{on_ok_weaker}
use Rattle.java_text.specs.declared.pieces.Piece.TheVariants.{Name}
use Rattle.java_text.proofs.Putting.{puts_one, puts_mark, puts_then, puts_as}
use Rattle.java_text.proofs.pieces.push_member.Goals as goal

pub returns : goal.returns
returns c = λ names known.
    let exprs = c.args.exprs.now in
    let name = puts_one names exprs (Name c.args.member.name) known c.in_ok-push.ensures.ok in
    let dot = puts_then names exprs name (puts_mark names exprs _ c.in_ok-push-2.ensures.ok) in
    on_ok_weaker c.push_receiver.result (λ put. puts_as names exprs (puts_then names exprs dot put) refl (omega arith)) (c.push_receiver.ensures names)
