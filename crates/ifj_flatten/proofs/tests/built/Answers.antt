use Rattle.std.proofs.Common.{[], ◌∷◌, length, get_or, ap, sym, ◌∙◌, subst, length-append, arith}
use Rattle.std.specs.Prelude.{All}
use Rattle.std.proofs.lemmas.List.Elements.{All-push, All-nil}
use Rattle.arena_walk.specs.Forest.{trees}
use Rattle.arena_walk.proofs.Visitors.{trees-nil, length-grow, length-trees-le}
use Rattle.dj_tree.specs.Arities.{expr_arity}
use Rattle.dj_tree.specs.WellFormed.{IsExprNode}
use Rattle.dj_tree.specs.declared.expression.ExprNode.TheVariants.{Variable}
use Rattle.ifj_flatten.proofs.tests.built.Goals as goal

pub loop-node-init : goal.loop-node-init
loop-node-init c =
    record {
      all = ap length c.new-exprs.ensures;
      finished = sym (ap (λ ns. length (trees expr_arity ns)) c.new-exprs.ensures ∙ ap length (trees-nil expr_arity));
      root = λ some. some;
      known = subst (All (IsExprNode c.args.names.now)) (sym c.new-exprs.ensures) (All-nil (IsExprNode c.args.names.now));
    }

pub overflow_add-finished : goal.overflow_add-finished
overflow_add-finished c = record { fits = omega (arith, c.loop-node.invariant.finished, c.loop-node.invariant.all, length-trees-le expr_arity c.loop-node.exprs) }

pub loop-node-preserved : goal.loop-node-preserved
loop-node-preserved c =
    let node = get_or c.args.nodes.now c.loop-node.node-index (Variable (record { name = record { 0 = 0 }; at = 0 })) in
    let before = c.loop-node.exprs in
    let pushed = c.in_ok-root.ensures in
    let old = c.loop-node.invariant in
    record {
      all = ap length pushed.nodes ∙ omega (arith, old.all, length-append before (node ∷ []));
      finished = omega (arith, old.finished, ap length pushed.trees, length-grow expr_arity (trees expr_arity before) node, c.arity-arity.ensures);
      root = λ _. omega (arith, pushed.number, old.all);
      known = subst (All (IsExprNode c.args.names.now)) (sym pushed.nodes) (All-push (IsExprNode c.args.names.now) before node old.known (c.is_known.ensures c.args.names.now c.requires.last c.if-not-is_known.false));
    }
