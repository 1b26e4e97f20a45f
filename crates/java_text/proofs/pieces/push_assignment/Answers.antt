use Rattle.std.proofs.Common.{arith}
use Rattle.std.proofs.lemmas.Result.{on_ok_weaker}
use Rattle.dj_tree.specs.declared.expression.ExprNode.TheVariants as node
use Rattle.java_text.specs.declared.pieces.Piece.TheVariants.{Node}
use Rattle.java_text.specs.Pieces.{kids_at}
use Rattle.java_text.proofs.Putting.{puts_one, puts_mark, puts_then}
use Rattle.java_text.proofs.Parts.{has_part}
use Rattle.java_text.proofs.Nodes.{node_known, assignment_put}
use Rattle.java_text.proofs.pieces.push_assignment.Goals as goal

pub child-requires-clause-below : goal.child-requires-clause-below
child-requires-clause-below c = has_part c.args.exprs.now c.args.at.0 (node.Assign c.args.field) 1 c.requires.node (omega arith)

pub child-requires-2-clause-below : goal.child-requires-2-clause-below
child-requires-2-clause-below c = has_part c.args.exprs.now c.args.at.0 (node.Assign c.args.field) 0 c.requires.node (omega arith)

pub returns : goal.returns
returns c = λ names all.
    let exprs = c.args.exprs.now in
    let at = c.args.at.0 in
    let n = node.Assign c.args.field in
    let value = puts_one names exprs (Node c.child.result) (omega (arith, c.child.ensures.before, c.requires.there)) c.in_ok-push.ensures.ok in
    let behind = puts_then names exprs value (puts_mark names exprs _ c.in_ok-push-2.ensures.ok) in
    on_ok_weaker c.push_member.result
    (λ put. assignment_put names exprs at _ _ c.args.field c.child-2.result.0 c.child.result.0 c.requires.node
    (c.child-2.ensures.tree n (kids_at exprs at) c.requires.node.tree) (c.child.ensures.tree n (kids_at exprs at) c.requires.node.tree)
    (puts_then names exprs behind put))
    (c.push_member.ensures names (node_known names exprs at n all c.requires.node))
