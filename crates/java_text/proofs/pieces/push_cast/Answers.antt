use Rattle.std.proofs.Common.{arith}
use Rattle.dj_tree.specs.declared.expression.ExprNode.TheVariants as node
use Rattle.java_text.specs.declared.pieces.Piece.TheVariants.{Name}
use Rattle.java_text.specs.Pieces.{kids_at}
use Rattle.java_text.proofs.Putting.{puts_one, puts_mark, puts_then}
use Rattle.java_text.proofs.Parts.{has_part}
use Rattle.java_text.proofs.Nodes.{node_known, cast_put}
use Rattle.java_text.proofs.pieces.push_cast.Goals as goal

pub child-requires-clause-below : goal.child-requires-clause-below
child-requires-clause-below c = has_part c.args.exprs.now c.args.at.0 (node.Cast c.args.class) 0 c.requires.node (omega arith)

pub returns : goal.returns
returns c = λ names all.
    let exprs = c.args.exprs.now in
    let at = c.args.at.0 in
    let n = node.Cast c.args.class in
    let known = node_known names exprs at n all c.requires.node in
    let put = puts_then names exprs (c.in_ok-push_operand.ensures names) (puts_mark names exprs _ c.in_ok-push.ensures.ok) in
    let named = puts_then names exprs put (puts_one names exprs (Name c.args.class.name) known c.in_ok-push-2.ensures.ok) in
    cast_put names exprs at _ _ c.args.class c.child.result.0 c.requires.node (c.child.ensures.tree n (kids_at exprs at) c.requires.node.tree)
    (puts_then names exprs named (puts_mark names exprs _ c.in_ok-push-3.ensures.ok))
