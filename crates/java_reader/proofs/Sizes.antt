-- How many nodes the expression of a root has.
use Rattle.std.proofs.Common.{◌≡◌, ℕ, ◌+◌, ◌-◌, ◌≤◌, List, length, take, Some, sym, ap, ◌∙◌, length-take, length-drop, arith}
use Rattle.std.specs.Prelude.{unwrap_or}
use Rattle.std.specs.Option.{option_map}
use Rattle.dj_names.specs.Texts.{Text}
use Rattle.arena_walk.specs.Tree.{Tree, size, nodes}
use Rattle.arena_walk.specs.Forest.{tree_at, first_number}
use Rattle.arena_walk.proofs.ForestLemmas.{tree_at_within}
use Rattle.arena_walk.proofs.Visitors.{nodes_to}
use Rattle.dj_tree.specs.Trees.{null_at}
use Rattle.dj_tree.specs.Arities.{expr_arity}
use Rattle.dj_tree.specs.Plain.{expr_form, in_form, plain_expr}
use Rattle.dj_tree.specs.declared.expression.ExprNode.{ExprNode}
use Rattle.ifj_table.proofs.Copying.{size_of_form}

module _ (names : List Text) (exprs : List ExprNode) (root : ℕ) (t : Tree ExprNode) (at : tree_at expr_arity exprs root ≡ Some t) where
  many : length (nodes t) ≡ root + 1 - first_number root t
  many = omega (arith, ap length (nodes_to expr_arity exprs root t at), length-drop (first_number root t) (take (root + 1) exprs), length-take (root + 1) exprs, tree_at_within expr_arity exprs root t at)

  pub size_is : (first : ℕ) → first ≡ first_number root t → first ≤ root → root - first + 1 ≡ size (plain_expr names exprs root)
  size_is first e low =
      omega (arith, many, e) ∙ sym (size_of_form names t) ∙ ap (λ o. size (unwrap_or (option_map (in_form (expr_form names)) o) (null_at 0))) (sym at)
