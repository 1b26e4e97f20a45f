-- The texts of the nodes of a formula and of an expression.
use Rattle.std.proofs.Common.{◌≡◌, ℕ, ◌+◌, [], ◌∷◌, length, refl, length-append, arith}
use Rattle.std.specs.Prelude.{All}
use Rattle.std.specs.Str.{IsUtf8}
use Rattle.std.proofs.lemmas.List.Elements.{All-head}
use Rattle.dj_names.specs.Texts.{Text}
use Rattle.arena_walk.specs.Tree.{Tree, Trees, branch, no_trees, tree_and, root_of, size, size_each, EachNode, EachNodeOf}
use Rattle.dj_tree.specs.Trees.{Formula, FormulaForm, TrueForm, FalseForm, FeatureForm, NotForm, AndForm, OrForm, ImpliesForm, SameForm}
use Rattle.dj_tree.specs.Trees.{Expr, ExprForm, VariableForm, ThisForm, NullForm, FieldForm, CallForm, NewForm, CastForm, AssignForm, OriginalForm}
use Rattle.dj_nodes.specs.Texts.{ExprFormText, FormulaFormText, ExprTexts, FormulaTexts}
use Rattle.dj_parser.specs.Said.{said_tree, said_trees, formula_text, expr_text, said_formula, said_expr}
use Rattle.dj_parser.proofs.SaidLemmas.{All-front, All-back}

module _ {N : Type 0} (text : N → Text) where
  mutual
    pub said_size : (t : Tree N) → length (said_tree text t) ≡ size t
    said_size (branch n kids) = omega (arith, length-append (said_trees text kids) (text n ∷ []), said_size_each kids)

    said_size_each : (kids : Trees N) → length (said_trees text kids) ≡ size_each kids
    said_size_each no_trees = refl
    said_size_each (tree_and t kids) = omega (arith, length-append (said_tree text t) (said_trees text kids), said_size t, said_size_each kids)

  module _ (P : N → Type 0) (holds : (n : N) → IsUtf8 (text n) → P n) where
    mutual
      each_text : (first : ℕ) (t : Tree N) → All IsUtf8 (said_tree text t) → EachNode (λ u _. P (root_of u)) first t
      each_text first (branch n kids) all =
          (each_text_of first kids (All-front IsUtf8 (said_trees text kids) (text n ∷ []) all), holds n (All-head IsUtf8 (text n) [] (All-back IsUtf8 (said_trees text kids) (text n ∷ []) all)))

      each_text_of : (first : ℕ) (kids : Trees N) → All IsUtf8 (said_trees text kids) → EachNodeOf (λ u _. P (root_of u)) first kids
      each_text_of first no_trees all = tt
      each_text_of first (tree_and t kids) all =
          (each_text first t (All-front IsUtf8 (said_tree text t) (said_trees text kids) all), each_text_of (first + size t) kids (All-back IsUtf8 (said_tree text t) (said_trees text kids) all))

expr_form_text : (n : ExprForm) → IsUtf8 (expr_text n) → ExprFormText IsUtf8 n
expr_form_text (VariableForm x) is = is
expr_form_text (ThisForm at) is = tt
expr_form_text (NullForm at) is = tt
expr_form_text (FieldForm f) is = is
expr_form_text (CallForm m) is = is
expr_form_text (NewForm c) is = is
expr_form_text (CastForm c) is = is
expr_form_text (AssignForm f) is = is
expr_form_text (OriginalForm at) is = tt

formula_form_text : (n : FormulaForm) → IsUtf8 (formula_text n) → FormulaFormText IsUtf8 n
formula_form_text TrueForm is = tt
formula_form_text FalseForm is = tt
formula_form_text (FeatureForm x) is = is
formula_form_text NotForm is = tt
formula_form_text AndForm is = tt
formula_form_text OrForm is = tt
formula_form_text ImpliesForm is = tt
formula_form_text SameForm is = tt

pub expr_texts : (e : Expr) → All IsUtf8 (said_expr e) → ExprTexts IsUtf8 e
expr_texts e all = each_text expr_text (ExprFormText IsUtf8) expr_form_text 0 e all

pub formula_texts : (a : Formula) → All IsUtf8 (said_formula a) → FormulaTexts IsUtf8 a
formula_texts a all = each_text formula_text (FormulaFormText IsUtf8) formula_form_text 0 a all
