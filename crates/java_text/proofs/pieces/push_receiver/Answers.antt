use Rattle.std.proofs.Common.{arith}
use Rattle.std.proofs.lemmas.Result.{on_ok_weaker}
use Rattle.java_text.proofs.Putting.{puts_as}
use Rattle.java_text.proofs.Receivers.{as_receiver}
use Rattle.java_text.proofs.pieces.push_receiver.Goals as goal

pub returns : goal.returns
returns c = λ names.
    let exprs = c.args.exprs.now in
    let at = c.args.at.0 in
    let tree = c.get.ensures.tree in
    on_ok_weaker c.push_either.result
    (λ put. puts_as names exprs put (as_receiver names exprs at c.get.result.now tree.0 tree.2 c.is_enclosed_receiver-enclosed.result (c.is_enclosed_receiver-enclosed.ensures names)) (omega arith))
    (c.push_either.ensures names exprs c.requires)
