-- The finished trees of an arena while its names and its nodes grow.
use Rattle.std.proofs.Common.{◌≡◌, ℕ, ◌+◌, ◌-◌, ◌<◌, List, [], ◌∷◌, ◌++◌, length, map, take, drop, Some, refl, sym, ap, ap₂, ◌∙◌, length-append, arith}
use Rattle.std.specs.Prelude.{All, unwrap_or}
use Rattle.std.specs.Option.{option_map}
use Rattle.std.proofs.lemmas.List.{length-map, map-append, take-map, drop-map, take_at, drop_at}
use Rattle.dj_names.specs.Texts.{Text, Extends}
use Rattle.arena_walk.specs.Tree.{Tree, trees_of, over, size, size_each, EachNodeOf}
use Rattle.arena_walk.specs.Forest.{last_trees, trees, tree_at}
use Rattle.arena_walk.proofs.TreeLemmas.{size_above, length-nodes, EachNode-root}
use Rattle.arena_walk.proofs.ForestLemmas.{grow-is, trees-push, tree_at_within, size-trees, have_own}
use Rattle.arena_walk.proofs.Visitors.{fold_each-trees_of}
use Rattle.dj_tree.specs.Arities.{expr_arity}
use Rattle.dj_tree.specs.Plain.{expr_form, in_form, plain_expr}
use Rattle.dj_tree.specs.Trees.{Expr, null_at}
use Rattle.dj_tree.specs.WellFormed.{IsExprNode}
use Rattle.dj_tree.specs.declared.expression.ExprNode.{ExprNode}
use Rattle.dj_tree.proofs.Growing.{keeps_reflexive, kept_expr}
use Rattle.dj_tree.proofs.InForm.{renamed}
use Rattle.dj_tree.proofs.Filling.{last_tree}
use Rattle.ifj_table.proofs.Copying.{size_of_form}
use Rattle.ifj_flatten.specs.Pieces.{forest}

-- the expression at a number whose tree is known
pub expr_of_tree : (names : List Text) (ns : List ExprNode) (at : ℕ) (t : Tree ExprNode) → tree_at expr_arity ns at ≡ Some t → plain_expr names ns at ≡ in_form (expr_form names) t
expr_of_tree names ns at t is = ap (λ o. unwrap_or (option_map (in_form (expr_form names)) o) (null_at 0)) is

-- the parts of a node, in the forms of their nodes
pub over_parts : (names : List Text) (n : ExprNode) (parts : List (Tree ExprNode)) → in_form (expr_form names) (over n parts) ≡ over (expr_form names n) (map (in_form (expr_form names)) parts)
over_parts names n parts = ap (over (expr_form names n)) (fold_each-trees_of (renamed (expr_form names)) parts)

module _ (names later : List Text) (ns : List ExprNode) (grown : Extends names later) (known : All (IsExprNode names) ns) where
  each_same : (first : ℕ) (ts : List (Tree ExprNode)) → EachNodeOf (λ u k. tree_at expr_arity ns k ≡ Some u) first (trees_of ts) → map (in_form (expr_form later)) ts ≡ map (in_form (expr_form names)) ts
  each_same first [] own = refl
  each_same first (t ∷ ts) own =
      let some = size_above t in
      let at : ℕ = first + size t - 1 in
      let here = EachNode-root (λ u k. tree_at expr_arity ns k ≡ Some u) first at t (omega (arith, some)) own.0 in
      ap₂ (λ x xs. x ∷ xs)
      (sym (expr_of_tree later ns at t here) ∙ kept_expr names later ns ns at grown (keeps_reflexive ns) known (tree_at_within expr_arity ns at t here) ∙ expr_of_tree names ns at t here)
      (each_same (first + size t) ts own.1)

  -- they stay while names are added
  pub forest_later : forest later ns ≡ forest names ns
  forest_later = each_same 0 (trees expr_arity ns) (have_own expr_arity ns)

split_last : {X : Type 0} (front parts xs : List X) (n : ℕ) → xs ≡ front ++ parts → length parts ≡ n → (take (length xs - n) xs ≡ front) × (drop (length xs - n) xs ≡ parts)
split_last front parts xs n is many =
    let at : length front ≡ length xs - n = omega (arith, ap length is, length-append front parts, many) in
    (ap (take (length xs - n)) is ∙ take_at front parts (length xs - n) at, ap (drop (length xs - n)) is ∙ drop_at front parts (length xs - n) at)

last_are : (arity : ExprNode → ℕ) (ts : List (Tree ExprNode)) (n : ExprNode) → last_trees arity ts n ≡ drop (length ts - arity n) ts
unfolding last_trees
last_are arity ts n = refl

-- a node takes the last trees for its parts
pub forest_push : (names : List Text) (ns : List ExprNode) (n : ExprNode) (front parts : List Expr) → forest names ns ≡ front ++ parts → length parts ≡ expr_arity n
    → forest names (ns ++ n ∷ []) ≡ front ++ over (expr_form names n) parts ∷ []
forest_push names ns n front parts is many =
    let f = in_form (expr_form names) in
    let ts = trees expr_arity ns in
    let at : ℕ = length ts - expr_arity n in
    let count : length (map f ts) - expr_arity n ≡ at = ap (λ k. k - expr_arity n) (length-map ts f) in
    let split = split_last front parts (map f ts) (expr_arity n) is many in
    ap (map f) (trees-push expr_arity ns n ∙ grow-is expr_arity ts n ∙ ap (λ l. take at ts ++ over n l ∷ []) (last_are expr_arity ts n))
    ∙ map-append f (take at ts) (over n (drop at ts) ∷ [])
    ∙ ap₂ (λ xs x. xs ++ x ∷ [])
    (sym (take-map f at ts) ∙ ap (λ k. take k (map f ts)) (sym count) ∙ split.0)
    (over_parts names n (drop at ts) ∙ ap (over (expr_form names n)) (sym (drop-map f at ts) ∙ ap (λ k. drop k (map f ts)) (sym count) ∙ split.1))

-- ---- one finished tree

-- an arena that has this one tree
pub record IsAlone (names : List Text) (ns : List ExprNode) (e : Expr) : Type 0 where
  pub some : 0 < length ns
  pub tree : plain_expr names ns (length ns - 1) ≡ e
  pub many : size e ≡ length ns

pub alone : (names : List Text) (ns : List ExprNode) (e : Expr) → forest names ns ≡ e ∷ [] → IsAlone names ns e
alone names ns e is = by (trees expr_arity ns) refl is
  where
    by : (ts : List (Tree ExprNode)) → trees expr_arity ns ≡ ts → map (in_form (expr_form names)) ts ≡ e ∷ [] → IsAlone names ns e
    by [] are none = absurd cc
    by (t ∷ u ∷ ts) are more = absurd cc
    by (t ∷ []) are one =
        let same : in_form (expr_form names) t ≡ e = cc in
        let many : size t ≡ length ns = omega (arith, ap (λ xs. size_each (trees_of xs)) are, size-trees expr_arity ns) in
        let some = size_above t in
        let last = last_tree expr_arity ns [] t (length ns - 1) are (omega (arith, some, many)) in
        record {
          some = omega (arith, some, many);
          tree = expr_of_tree names ns (length ns - 1) t last ∙ same;
          many = ap size (sym same) ∙ size_of_form names t ∙ length-nodes t ∙ many;
        }
