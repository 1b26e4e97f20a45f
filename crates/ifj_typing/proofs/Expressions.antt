-- The trees of an arena of nodes are expressions, no larger than the arena. For tests.
use Rattle.std.proofs.Common.{◌≡◌, ℕ, ◌+◌, ◌<◌, ◌≤◌, true, ◌&&◌, List, length, Option, Some, get_or, refl, sym, ap, ap₂, ◌∙◌, subst, arith}
use Rattle.std.specs.Prelude.{unwrap_or}
use Rattle.std.specs.Option.{option_map}
use Rattle.std.proofs.lemmas.Option.{slice_get-get_or}
use Rattle.dj_names.specs.Texts.{Text}
use Rattle.arena_walk.specs.Tree.{Tree, Trees, branch, no_trees, tree_and, trees_of, list_of, size, size_each, EachNode, EachNodeOf, fold_each}
use Rattle.arena_walk.specs.Forest.{tree_at, first_number, HasArity}
use Rattle.arena_walk.proofs.Visitors.{tree_at_node, size_within}
use Rattle.dj_tree.specs.Arities.{expr_arity}
use Rattle.dj_tree.specs.Plain.{expr_form, in_form, plain_expr}
use Rattle.dj_tree.specs.Trees as plain
use Rattle.dj_tree.specs.Trees.{ExprForm}
use Rattle.dj_tree.specs.declared.expression.ExprNode.{ExprNode}
use Rattle.dj_tree.specs.declared.expression.ExprNode.TheVariants.{Variable, This, Null, Field, Call, New, Cast, Assign, Original}
use Rattle.dj_tree.proofs.InForm.{renamed}
use Rattle.dj_calculus.specs.Expressions.{takes, is_expression, are_expressions, IsExpression}

module _ (names : List Text) where
  abbrev parts : Trees ExprNode → Trees ExprForm
  parts ks = trees_of (fold_each (renamed (expr_form names)) ks)

  taken : (n : ExprNode) (ks : Trees ExprNode) → length (list_of ks) ≡ expr_arity n → takes (expr_form names n) (parts ks) ≡ true
  taken (Variable x) no_trees count = refl
  taken (Variable x) (tree_and k ks) count = absurd (omega (arith, count))
  taken (This at) no_trees count = refl
  taken (This at) (tree_and k ks) count = absurd (omega (arith, count))
  taken (Null at) no_trees count = refl
  taken (Null at) (tree_and k ks) count = absurd (omega (arith, count))
  taken (New c) no_trees count = refl
  taken (New c) (tree_and k ks) count = absurd (omega (arith, count))
  taken (Field f) no_trees count = absurd (omega (arith, count))
  taken (Field f) (tree_and k no_trees) count = refl
  taken (Field f) (tree_and k (tree_and j ks)) count = absurd (omega (arith, count))
  taken (Cast c) no_trees count = absurd (omega (arith, count))
  taken (Cast c) (tree_and k no_trees) count = refl
  taken (Cast c) (tree_and k (tree_and j ks)) count = absurd (omega (arith, count))
  taken (Assign f) no_trees count = absurd (omega (arith, count))
  taken (Assign f) (tree_and k no_trees) count = absurd (omega (arith, count))
  taken (Assign f) (tree_and k (tree_and j no_trees)) count = refl
  taken (Assign f) (tree_and k (tree_and j (tree_and h ks))) count = absurd (omega (arith, count))
  taken (Call m arguments) no_trees count = absurd (omega (arith, count))
  taken (Call m arguments) (tree_and k ks) count = refl
  taken (Original at arguments) ks count = refl

  mutual
    formed_tree : (first : ℕ) (t : Tree ExprNode) → EachNode (λ u _. HasArity expr_arity u) first t → is_expression (in_form (expr_form names) t) ≡ true
    formed_tree first (branch n ks) each =
        ap₂ (λ a b. a && b) (taken n ks each.1) (formed_trees first ks each.0)

    formed_trees : (first : ℕ) (ks : Trees ExprNode) → EachNodeOf (λ u _. HasArity expr_arity u) first ks → are_expressions (parts ks) ≡ true
    formed_trees first no_trees each = refl
    formed_trees first (tree_and k ks) each = ap₂ (λ a b. a && b) (formed_tree first k each.0) (formed_trees (first + size k) ks each.1)

  mutual
    size_formed : (t : Tree ExprNode) → size (in_form (expr_form names) t) ≡ size t
    size_formed (branch n ks) = ap (λ k. k + 1) (sizes_formed ks)

    sizes_formed : (ks : Trees ExprNode) → size_each (parts ks) ≡ size_each ks
    sizes_formed no_trees = refl
    sizes_formed (tree_and k ks) = ap₂ (λ a b. a + b) (size_formed k) (sizes_formed ks)

  module _ (exprs : List ExprNode) (root : ℕ) (there : root < length exprs)
      (whole : (tree : Tree ExprNode) → tree_at expr_arity exprs root ≡ Some tree → EachNode (λ t _. HasArity expr_arity t) (first_number root tree) tree) where
    by : (P : plain.Expr → Type 0) → ((tree : Tree ExprNode) → tree_at expr_arity exprs root ≡ Some tree → P (in_form (expr_form names) tree)) → P (plain_expr names exprs root)
    by P all = at (tree_at expr_arity exprs root) (tree_at_node expr_arity exprs root (get_or exprs root (This 0)) (slice_get-get_or exprs root (This 0) there)) refl
      where
        at : {tree : Tree ExprNode} (o : Option (Tree ExprNode)) → o ≡ Some tree → tree_at expr_arity exprs root ≡ o → P (plain_expr names exprs root)
        at {tree = tree} o is same =
            subst (λ (found : Option (Tree ExprNode)). P (unwrap_or (option_map (in_form (expr_form names)) found) (plain.null_at 0))) (sym (same ∙ is)) (all tree (same ∙ is))

    pub arena_expression : IsExpression (plain_expr names exprs root)
    arena_expression = by IsExpression (λ tree is. formed_tree (first_number root tree) tree (whole tree is))

    pub arena_size : size (plain_expr names exprs root) ≤ root + 1
    arena_size = by (λ e. size e ≤ root + 1) (λ tree is. omega (arith, size_formed tree, size_within expr_arity exprs root tree is))
