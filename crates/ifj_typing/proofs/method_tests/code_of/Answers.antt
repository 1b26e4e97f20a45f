use Rattle.std.proofs.Common.{[], ◌∷◌, length, ap, sym, ◌∙◌, subst, length-append, arith}
use Rattle.std.specs.Prelude.{All}
use Rattle.std.proofs.lemmas.List.Elements.{All-push, All-nil}
use Rattle.arena_walk.specs.Forest.{trees}
use Rattle.arena_walk.proofs.Visitors.{trees-nil, length-grow, length-trees-le}
use Rattle.dj_tree.specs.Arities.{expr_arity}
use Rattle.dj_tree.specs.WellFormed.{IsExprNode}
use Rattle.dj_tree.proofs.Growing.{expr_nodes_later}
use Rattle.ifj_typing.proofs.method_tests.code_of.Goals as goal

pub loop-number-init : goal.loop-number-init
loop-number-init c =
    record {
      all = ap length c.new-exprs.ensures;
      finished = sym (ap (λ ns. length (trees expr_arity ns)) c.new-exprs.ensures ∙ ap length (trees-nil expr_arity));
      root = λ some. some;
      known = subst (All (IsExprNode c.new-names.result)) (sym c.new-exprs.ensures) (All-nil (IsExprNode c.new-names.result));
      few = omega (arith, ap length c.new-names.ensures);
    }

pub overflow_add-finished : goal.overflow_add-finished
overflow_add-finished c = record { fits = omega (arith, c.loop-number.invariant.finished, c.loop-number.invariant.all, length-trees-le expr_arity c.loop-number.exprs) }

pub loop-number-preserved : goal.loop-number-preserved
loop-number-preserved c =
    let made = c.in_ok-node.node in
    let before = c.loop-number.exprs in
    let pushed = c.in_ok-root.ensures in
    let old = c.loop-number.invariant in
    let names = c.node_of.new.names in
    record {
      all = ap length pushed.nodes ∙ omega (arith, old.all, length-append before (made ∷ []));
      finished = omega (arith, old.finished, ap length pushed.trees, length-grow expr_arity (trees expr_arity before) made, c.arity-arity.ensures);
      root = λ _. omega (arith, pushed.number, old.all);
      known = subst (All (IsExprNode names)) (sym pushed.nodes) (All-push (IsExprNode names) before made (expr_nodes_later c.loop-number.names names before c.node_of.ensures.numbers old.known) c.in_ok-node.ensures.known);
      few = omega (arith, old.few, c.node_of.ensures.few);
    }
