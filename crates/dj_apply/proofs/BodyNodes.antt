-- The nodes of a body, from its first on.
use Rattle.std.proofs.Common.{◌≡◌, ℕ, zero, suc, ◌+◌, ◌-◌, ◌<◌, ◌≤◌, Bool, true, false, ◌||◌, List, [], ◌∷◌, length, map, take, drop, slice_get, Some, refl, sym, ap, ◌∙◌, length-take, length-drop, arith}
use Rattle.std.specs.Prelude.{unwrap_or}
use Rattle.std.specs.Option.{option_map}
use Rattle.std.specs.List.{list_any}
use Rattle.std.proofs.lemmas.List.{take_all, length-map}
use Rattle.std.proofs.lemmas.List.Folds.{list_any_more, list_any_at}
use Rattle.std.proofs.lemmas.Option.{slice_get_within, get_or_from_slice_get, slice_get-map}
use Rattle.dj_names.specs.Texts.{Text}
use Rattle.arena_walk.specs.Tree.{Tree, size, nodes}
use Rattle.arena_walk.specs.Forest.{tree_at, first_number}
use Rattle.arena_walk.proofs.ForestLemmas.{tree_at_within}
use Rattle.arena_walk.proofs.Visitors.{nodes_to}
use Rattle.dj_tree.specs.Trees.{ExprForm, null_at}
use Rattle.dj_tree.specs.Arities.{expr_arity}
use Rattle.dj_tree.specs.Plain.{expr_form, in_form, plain_expr}
use Rattle.dj_tree.specs.declared.expression.ExprNode.{ExprNode}
use Rattle.dj_tree.proofs.InForm.{nodes_in_form}
use Rattle.dj_calculus.specs.Entries.{is_original, says_original}
use Rattle.ifj_table.proofs.Copying.{size_of_form}

at_drop : {X : Type 0} (k i : ℕ) (xs : List X) → slice_get (drop k xs) i ≡ slice_get xs (k + i)
at_drop zero i xs = let same : i ≡ 0 + i = omega arith in ap (slice_get xs) same
at_drop {X} (suc k) i [] = refl
at_drop (suc k) i (x ∷ xs) = let same : suc (k + i) ≡ suc k + i = omega arith in at_drop k i xs ∙ ap (slice_get (x ∷ xs)) same

at_take : {X : Type 0} (n i : ℕ) (xs : List X) → i < n → slice_get (take n xs) i ≡ slice_get xs i
at_take zero i xs low = absurd (omega arith)
at_take (suc n) i [] low = refl
at_take (suc n) zero (x ∷ xs) low = refl
at_take (suc n) (suc i) (x ∷ xs) low = at_take n i xs (omega arith)

module _ (names : List Text) (exprs : List ExprNode) (root : ℕ) (t : Tree ExprNode) (at : tree_at expr_arity exprs root ≡ Some t) where
  plain_is : plain_expr names exprs root ≡ in_form (expr_form names) t
  plain_is = ap (λ o. unwrap_or (option_map (in_form (expr_form names)) o) (null_at 0)) at

  many : length (nodes t) ≡ root + 1 - first_number root t
  many = omega (arith, ap length (nodes_to expr_arity exprs root t at), length-drop (first_number root t) (take (root + 1) exprs), length-take (root + 1) exprs, tree_at_within expr_arity exprs root t at)

  -- how many nodes a body has
  pub size_is : (first : ℕ) → first ≡ first_number root t → first ≤ root → root - first + 1 ≡ size (plain_expr names exprs root)
  size_is first e low = omega (arith, many, e) ∙ sym (size_of_form names t) ∙ ap size (sym plain_is)

  forms : List ExprForm
  forms = map (expr_form names) (nodes t)

  says : list_any is_original (map (expr_form names) (nodes t)) ≡ says_original (plain_expr names exprs root)
  says = ap (list_any is_original) (sym (nodes_in_form (expr_form names) t)) ∙ ap says_original (sym plain_is)

  -- no node before this number is an `original`
  pub record NoneBefore (number : ℕ) : Type 0 where
    pub above : first_number root t ≤ number
    pub below : number ≤ root + 1
    pub none : list_any is_original (take (number - first_number root t) (map (expr_form names) (nodes t))) ≡ false

  pub none_yet : (first : ℕ) → first ≡ first_number root t → first ≤ root → NoneBefore first
  none_yet first e low = record {
    above = omega arith;
    below = omega arith;
    none = ap (λ n. list_any is_original (take n (map (expr_form names) (nodes t)))) nothing;
  }
    where
      nothing : first - first_number root t ≡ 0
      nothing = omega (arith, e)

  node_there : (number : ℕ) (node : ExprNode) → NoneBefore number → number < root + 1 → slice_get exprs number ≡ Some node
      → slice_get (map (expr_form names) (nodes t)) (number - first_number root t) ≡ Some (expr_form names node)
  node_there number node so_far low is =
      slice_get-map (expr_form names) (nodes t) (number - first_number root t)
      ∙ ap (option_map (expr_form names)) (ap (λ xs. slice_get xs (number - first_number root t)) (sym (nodes_to expr_arity exprs root t at))
      ∙ at_drop (first_number root t) (number - first_number root t) (take (root + 1) exprs) ∙ ap (slice_get (take (root + 1) exprs)) back ∙ at_take (root + 1) number exprs low ∙ is)
    where
      back : first_number root t + (number - first_number root t) ≡ number
      back = omega (arith, so_far.above)

  pub one_is : (number : ℕ) (node : ExprNode) → NoneBefore number → number < root + 1 → slice_get exprs number ≡ Some node → true ≡ is_original (expr_form names node)
      → true ≡ says_original (plain_expr names exprs root)
  one_is number node so_far low is original =
      let here = node_there number node so_far low is in
      sym (list_any_at is_original (map (expr_form names) (nodes t)) (number - first_number root t) (expr_form names node) (slice_get_within _ _ _ here)
      (ap is_original (get_or_from_slice_get (map (expr_form names) (nodes t)) (number - first_number root t) (expr_form names node) (expr_form names node) here) ∙ sym original)) ∙ says

  pub none_more : (number : ℕ) (node : ExprNode) → NoneBefore number → number < root + 1 → slice_get exprs number ≡ Some node → false ≡ is_original (expr_form names node) → NoneBefore (number + 1)
  none_more number node so_far low is original =
      let here = node_there number node so_far low is in
      record {
        above = omega (arith, so_far.above);
        below = omega arith;
        none = ap (λ n. list_any is_original (take n (map (expr_form names) (nodes t)))) one_more
            ∙ list_any_more is_original (map (expr_form names) (nodes t)) (number - first_number root t) (expr_form names node) (slice_get_within _ _ _ here)
            ∙ neither _ _ so_far.none (ap is_original (get_or_from_slice_get (map (expr_form names) (nodes t)) (number - first_number root t) (expr_form names node) (expr_form names node) here) ∙ sym original);
      }
    where
      one_more : number + 1 - first_number root t ≡ number - first_number root t + 1
      one_more = omega (arith, so_far.above)

      neither : (a b : Bool) → a ≡ false → b ≡ false → (a || b) ≡ false
      neither a b p q = ap (λ x. x || b) p ∙ q

  pub none_at_all : (number : ℕ) → NoneBefore number → root + 1 ≤ number → false ≡ says_original (plain_expr names exprs root)
  none_at_all number so_far high =
      sym so_far.none ∙ ap (list_any is_original) (take_all (number - first_number root t) (map (expr_form names) (nodes t)) enough) ∙ says
    where
      enough : length (map (expr_form names) (nodes t)) ≤ number - first_number root t
      enough = omega (arith, length-map (nodes t) (expr_form names), many, so_far.above)
