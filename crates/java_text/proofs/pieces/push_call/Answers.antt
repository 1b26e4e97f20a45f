use Rattle.std.proofs.Common.{arith}
use Rattle.std.proofs.lemmas.Result.{on_ok_weaker}
use Rattle.dj_tree.specs.declared.expression.ExprNode.TheVariants as node
use Rattle.java_text.specs.Pieces.{kids_at}
use Rattle.java_text.proofs.Putting.{puts_then}
use Rattle.java_text.proofs.Parts.{has_part}
use Rattle.java_text.proofs.Nodes.{node_known, call_put}
use Rattle.java_text.proofs.pieces.push_call.Goals as goal

pub child-requires-clause-below : goal.child-requires-clause-below
child-requires-clause-below c = has_part c.args.exprs.now c.args.at.0 (node.Call c.args.method c.args.arguments) 0 c.requires.node (omega arith)

pub returns : goal.returns
returns c = λ names all.
    let exprs = c.args.exprs.now in
    let at = c.args.at.0 in
    let n = node.Call c.args.method c.args.arguments in
    on_ok_weaker c.push_member.result
    (λ put. call_put names exprs at _ _ c.args.method c.args.arguments c.child.result.0 c.requires.node (c.child.ensures.tree n (kids_at exprs at) c.requires.node.tree)
    (puts_then names exprs (c.in_ok-push_arguments.ensures names) put))
    (c.push_member.ensures names (node_known names exprs at n all c.requires.node))
