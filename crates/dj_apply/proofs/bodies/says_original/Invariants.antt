use Rattle.std.proofs.Common.{◌≡◌, Some}
use Rattle.arena_walk.specs.Tree.{Tree}
use Rattle.arena_walk.specs.Forest.{tree_at}
use Rattle.dj_tree.specs.Arities.{expr_arity}
use Rattle.dj_tree.specs.declared.expression.ExprNode.{ExprNode}
use Rattle.dj_apply.proofs.BodyNodes.{NoneBefore}
use Rattle.dj_apply.proofs.bodies.says_original.Given as goal

abbrev pub invariant-loop-number : goal.invariant-loop-number
invariant-loop-number l =
    (t : Tree ExprNode) × ((at : tree_at expr_arity l.source.exprs l.fn.body.0 ≡ Some t) × NoneBefore l.source.names l.source.exprs l.fn.body.0 t at l.number)
