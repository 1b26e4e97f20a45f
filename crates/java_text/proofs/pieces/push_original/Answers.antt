use Rattle.java_text.proofs.Putting.{puts_mark, puts_then}
use Rattle.java_text.proofs.Nodes.{original_put}
use Rattle.java_text.proofs.pieces.push_original.Goals as goal

pub returns : goal.returns
returns c = λ names all.
    let exprs = c.args.exprs.now in
    original_put names exprs c.args.at.0 _ _ c.args.place c.args.arguments c.requires.node
    (puts_then names exprs (c.in_ok-push_arguments.ensures names) (puts_mark names exprs _ c.in_ok-push.ensures.ok))
