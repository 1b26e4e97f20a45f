use Rattle.std.proofs.Common.{refl, subst, arith}
use Rattle.std.proofs.lemmas.Result.{on_ok_weaker}
use Rattle.dj_tree.specs.declared.expression.ExprNode.TheVariants as node
use Rattle.java_text.specs.declared.pieces.Piece.TheVariants.{Name}
use Rattle.java_text.specs.Pieces.{IsNode}
use Rattle.java_text.proofs.Putting.{puts_one, puts_mark}
use Rattle.java_text.proofs.Parts.{is_node}
use Rattle.java_text.proofs.Nodes.{node_known, leaf_put}
use Rattle.java_text.proofs.pieces.push_node.Goals as goal

pub push_field-requires-clause-node : goal.push_field-requires-clause-node
push_field-requires-clause-node c = subst (IsNode c.args.exprs.now c.args.at.0) c.in-Field.is (is_node c.args.exprs.now c.args.at.0 c.get.result.now c.get.ensures.node c.get.ensures.tree)

pub push_call-requires-clause-node : goal.push_call-requires-clause-node
push_call-requires-clause-node c = subst (IsNode c.args.exprs.now c.args.at.0) c.in-Call.is (is_node c.args.exprs.now c.args.at.0 c.get.result.now c.get.ensures.node c.get.ensures.tree)

pub push_new-requires-clause-node : goal.push_new-requires-clause-node
push_new-requires-clause-node c = subst (IsNode c.args.exprs.now c.args.at.0) c.in-New.is (is_node c.args.exprs.now c.args.at.0 c.get.result.now c.get.ensures.node c.get.ensures.tree)

pub push_cast-requires-clause-node : goal.push_cast-requires-clause-node
push_cast-requires-clause-node c = subst (IsNode c.args.exprs.now c.args.at.0) c.in-Cast.is (is_node c.args.exprs.now c.args.at.0 c.get.result.now c.get.ensures.node c.get.ensures.tree)

pub push_assignment-requires-clause-node : goal.push_assignment-requires-clause-node
push_assignment-requires-clause-node c = subst (IsNode c.args.exprs.now c.args.at.0) c.in-Assign.is (is_node c.args.exprs.now c.args.at.0 c.get.result.now c.get.ensures.node c.get.ensures.tree)

pub push_original-requires-clause-node : goal.push_original-requires-clause-node
push_original-requires-clause-node c = subst (IsNode c.args.exprs.now c.args.at.0) c.in-Original.is (is_node c.args.exprs.now c.args.at.0 c.get.result.now c.get.ensures.node c.get.ensures.tree)

pub returns-in-Variable : goal.returns-in-Variable
returns-in-Variable c = λ names all.
    let exprs = c.args.exprs.now in
    let at = c.args.at.0 in
    let n = node.Variable c.in-Variable.x in
    let is = subst (IsNode exprs at) c.in-Variable.is (is_node exprs at c.get.result.now c.get.ensures.node c.get.ensures.tree) in
    on_ok_weaker c.push.result
    (λ on. leaf_put names exprs at _ _ n _ 1 is refl refl (omega arith) (puts_one names exprs (Name c.in-Variable.x.name) (node_known names exprs at n all is) on)) c.push.ensures.ok

pub returns-in-This : goal.returns-in-This
returns-in-This c = λ names all.
    let exprs = c.args.exprs.now in
    let at = c.args.at.0 in
    let n = node.This c.in-This.field-0 in
    let is = subst (IsNode exprs at) c.in-This.is (is_node exprs at c.get.result.now c.get.ensures.node c.get.ensures.tree) in
    on_ok_weaker c.push-in-This.result (λ on. leaf_put names exprs at _ _ n _ 1 is refl refl (omega arith) (puts_mark names exprs _ on)) c.push-in-This.ensures.ok

pub returns-in-Null : goal.returns-in-Null
returns-in-Null c = λ names all.
    let exprs = c.args.exprs.now in
    let at = c.args.at.0 in
    let n = node.Null c.in-Null.field-0 in
    let is = subst (IsNode exprs at) c.in-Null.is (is_node exprs at c.get.result.now c.get.ensures.node c.get.ensures.tree) in
    on_ok_weaker c.push-in-Null.result (λ on. leaf_put names exprs at _ _ n _ 1 is refl refl (omega arith) (puts_mark names exprs _ on)) c.push-in-Null.ensures.ok
