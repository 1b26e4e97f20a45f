use Rattle.std.proofs.Common.{refl, arith}
use Rattle.dj_tree.specs.declared.expression.ExprNode.TheVariants as node
use Rattle.java_text.specs.declared.pieces.Piece.TheVariants.{Name}
use Rattle.java_text.proofs.Putting.{puts_one, puts_mark, puts_then}
use Rattle.java_text.proofs.Nodes.{node_known, leaf_put}
use Rattle.java_text.proofs.pieces.push_new.Goals as goal

pub returns : goal.returns
returns c = λ names all.
    let exprs = c.args.exprs.now in
    let at = c.args.at.0 in
    let n = node.New c.args.class in
    let known = node_known names exprs at n all c.requires.node in
    leaf_put names exprs at _ _ n _ _ c.requires.node refl refl (omega arith)
    (puts_then names exprs (puts_then names exprs (puts_mark names exprs _ c.in_ok-push.ensures.ok) (puts_one names exprs (Name c.args.class.name) known c.in_ok-push-2.ensures.ok))
    (puts_mark names exprs _ c.in_ok-push-3.ensures.ok))
