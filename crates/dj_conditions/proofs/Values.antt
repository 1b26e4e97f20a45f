-- The value of a formula is that of its gates.
use Rattle.std.proofs.Common.{◌≡◌, ℕ, suc, ◌+◌, Bool, true, false, not, if◌then◌else◌, List, [], ◌∷◌, length, refl, sym, ap, ◌∙◌, arith}
use Rattle.std.specs.Bool.{beq}
use Rattle.std.proofs.lemmas.Option.{unwrap_or-slice_get}
use Rattle.arena_walk.specs.Tree.{Tree, Trees, branch, no_trees, tree_and, trees_of, list_of, over, size, EachNode, EachNodeOf, fold_tree, fold_each}
use Rattle.arena_walk.specs.Forest.{HasArity}
use Rattle.dj_names.specs.Texts.{Text}
use Rattle.dj_tree.specs.Arities.{formula_arity}
use Rattle.dj_tree.specs.Trees.{Source}
use Rattle.dj_tree.specs.Plain.{in_form, formula_form, plain_spot}
use Rattle.dj_tree.specs.declared.formula.FormulaNode.{FormulaNode}
use Rattle.dj_tree.specs.declared.formula.FormulaNode.TheVariants as node
use Rattle.dj_calculus.specs.Configurations.{Configuration, chosen}
use Rattle.dj_calculus.specs.Formulas.{value, value_over}
use Rattle.dj_formula.specs.Value.{gate_value, value_of}
use Rattle.dj_conditions.specs.Conditions.{gate_of, gates_of, feature_number}

mutual
  -- a fold over a tree in another form is a fold over the tree
  pub fold_in_form : {N F A : Type 0} (form : N → F) (step : F → List A → A) (t : Tree N) → fold_tree step (in_form form t) ≡ fold_tree (λ n outs. step (form n) outs) t
  fold_in_form form step (branch n ks) = ap (step (form n)) (fold_each_in_form form step ks)

  fold_each_in_form : {N F A : Type 0} (form : N → F) (step : F → List A → A) (ks : Trees N)
      → fold_each step (trees_of (fold_each (λ n parts. over (form n) parts) ks)) ≡ fold_each (λ n outs. step (form n) outs) ks
  fold_each_in_form form step no_trees = refl
  fold_each_in_form form step (tree_and t ks) = ap (λ a. a ∷ fold_each step (trees_of (fold_each (λ n parts. over (form n) parts) ks))) (fold_in_form form step t)
      ∙ ap (λ bs. fold_tree (λ n outs. step (form n) outs) t ∷ bs) (fold_each_in_form form step ks)

length-fold_each : {N A : Type 0} (step : N → List A → A) (ks : Trees N) → length (fold_each step ks) ≡ length (list_of ks)
length-fold_each step no_trees = refl
length-fold_each step (tree_and t ks) = ap suc (length-fold_each step ks)

mutual
  -- two folds whose steps agree where the arity is right
  pub same_fold : {N A : Type 0} (arity : N → ℕ) (f g : N → List A → A) → ((n : N) (outs : List A) → length outs ≡ arity n → f n outs ≡ g n outs) → (first : ℕ) (t : Tree N)
      → EachNode (λ u _. HasArity arity u) first t → fold_tree f t ≡ fold_tree g t
  same_fold arity f g same first (branch n ks) full =
      same n (fold_each f ks) (length-fold_each f ks ∙ full.1) ∙ ap (g n) (same_fold_each arity f g same first ks full.0)

  same_fold_each : {N A : Type 0} (arity : N → ℕ) (f g : N → List A → A) → ((n : N) (outs : List A) → length outs ≡ arity n → f n outs ≡ g n outs) → (first : ℕ) (ks : Trees N)
      → EachNodeOf (λ u _. HasArity arity u) first ks → fold_each f ks ≡ fold_each g ks
  same_fold_each arity f g same first no_trees full = refl
  same_fold_each arity f g same first (tree_and t ks) full =
      ap (λ a. a ∷ fold_each f ks) (same_fold arity f g same first t full.0) ∙ ap (λ bs. fold_tree g t ∷ bs) (same_fold_each arity f g same (first + size t) ks full.1)

same_or_not : (a b : Bool) → beq a b ≡ (if a then b else not b)
same_or_not true true = refl
same_or_not true false = refl
same_or_not false true = refl
same_or_not false false = refl

module _ (names : List Text) (source : Source) (c : Configuration) where
  abbrev Gates : FormulaNode → List Bool → Bool
  Gates n outs = gate_value c (gate_of source.features (formula_form names n)) outs

  abbrev Meant : FormulaNode → List Bool → Bool
  Meant n outs = value_over (chosen source c) (formula_form names n) outs

  -- at a node whose parts are as many as its arity
  same_step : (n : FormulaNode) (outs : List Bool) → length outs ≡ formula_arity n → Gates n outs ≡ Meant n outs
  same_step node.True [] e = refl
  same_step node.True (a ∷ outs) e = absurd (omega arith)
  same_step node.False [] e = refl
  same_step node.False (a ∷ outs) e = absurd (omega arith)
  same_step (node.Feature x) [] e = sym (unwrap_or-slice_get c (feature_number source.features (plain_spot names x).text) false)
  same_step (node.Feature x) (a ∷ outs) e = absurd (omega arith)
  same_step node.Not [] e = refl
  same_step node.Not (a ∷ []) e = refl
  same_step node.Not (a ∷ b ∷ outs) e = refl
  same_step node.And [] e = refl
  same_step node.And (a ∷ []) e = refl
  same_step node.And (a ∷ b ∷ []) e = refl
  same_step node.And (a ∷ b ∷ d ∷ outs) e = refl
  same_step node.Or [] e = refl
  same_step node.Or (a ∷ []) e = refl
  same_step node.Or (a ∷ b ∷ []) e = refl
  same_step node.Or (a ∷ b ∷ d ∷ outs) e = refl
  same_step node.Implies [] e = refl
  same_step node.Implies (a ∷ []) e = refl
  same_step node.Implies (a ∷ b ∷ []) e = refl
  same_step node.Implies (a ∷ b ∷ d ∷ outs) e = refl
  same_step node.Same [] e = refl
  same_step node.Same (a ∷ []) e = refl
  same_step node.Same (a ∷ b ∷ []) e = same_or_not a b
  same_step node.Same (a ∷ b ∷ d ∷ outs) e = refl

  -- the value of the gates is that of the formula
  pub same_value : (first : ℕ) (t : Tree FormulaNode) → EachNode (λ u _. HasArity formula_arity u) first t
      → value_of c (gates_of source.features (in_form (formula_form names) t)) ≡ value (chosen source c) (in_form (formula_form names) t)
  same_value first t full =
      fold_in_form (gate_of source.features) (gate_value c) (in_form (formula_form names) t)
      ∙ fold_in_form (formula_form names) (λ form outs. gate_value c (gate_of source.features form) outs) t
      ∙ same_fold formula_arity Gates Meant same_step first t full
      ∙ sym (fold_in_form (formula_form names) (value_over (chosen source c)) t)
