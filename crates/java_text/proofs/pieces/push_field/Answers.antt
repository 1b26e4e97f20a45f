use Rattle.std.proofs.Common.{arith}
use Rattle.std.proofs.lemmas.Result.{on_ok_weaker}
use Rattle.dj_tree.specs.declared.expression.ExprNode.TheVariants as node
use Rattle.java_text.specs.Pieces.{kids_at}
use Rattle.java_text.proofs.Parts.{has_part}
use Rattle.java_text.proofs.Nodes.{node_known, field_put}
use Rattle.java_text.proofs.pieces.push_field.Goals as goal

pub child-requires-clause-below : goal.child-requires-clause-below
child-requires-clause-below c = has_part c.args.exprs.now c.args.at.0 (node.Field c.args.field) 0 c.requires.node (omega arith)

pub returns : goal.returns
returns c = λ names all.
    let exprs = c.args.exprs.now in
    let at = c.args.at.0 in
    let n = node.Field c.args.field in
    on_ok_weaker c.push_member.result
    (λ put. field_put names exprs at _ _ c.args.field c.child.result.0 c.requires.node (c.child.ensures.tree n (kids_at exprs at) c.requires.node.tree) put)
    (c.push_member.ensures names (node_known names exprs at n all c.requires.node))
