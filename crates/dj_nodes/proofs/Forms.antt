-- Formulas and expressions of nodes in post-order.
--
-- | You want | Use |
-- |---|---|
-- | what was read is in post-order | formula_order, expr_order |
-- | how many nodes the tree has | formula_size, expr_size |
-- | which nodes it has, the root last | formula_nodes, expr_nodes |
use Rattle.std.proofs.Common.{◌≡◌, ℕ, suc, ◌+◌, List, [], ◌∷◌, ◌++◌, length, map, refl, sym, ap, ap₂, ◌∙◌, append_assoc, arith}
use Rattle.std.specs.Prelude.{slice_get, unwrap_or}
use Rattle.std.proofs.lemmas.List.{append-nil, map-append, length-map}
use Rattle.arena_walk.specs.Tree.{Tree, Trees, branch, no_trees, tree_and, trees_of, list_of, size, nodes, nodes_each, EachNode, EachNodeOf, fold_each}
use Rattle.arena_walk.specs.Forest.{HasArity}
use Rattle.arena_walk.proofs.TreeLemmas.{length-nodes}
use Rattle.arena_walk.proofs.Visitors.{trees-nodes, list_of-trees_of}
use Rattle.dj_lexer.specs.Symbols.{Symbol}
use Rattle.dj_lexer.specs.declared.token.Dialect.{Dialect}
use Rattle.dj_tree.specs.Trees.{Formula, FormulaForm, always, Expr, ExprForm}
use Rattle.dj_tree.specs.Plain.{in_form}
use Rattle.dj_tree.proofs.InForm.{renamed, nodes_in_form}
use Rattle.dj_formula_reader.specs.declared.machine.FormulaMark.{FormulaMark}
use Rattle.dj_formula_reader.specs.declared.machine.FormulaMark.TheVariants as formula
use Rattle.dj_formula_reader.specs.Laws.{parts, formula_of, SpellsNodes}
use Rattle.dj_formula_reader.specs.View.{form_of, forms_of}
use Rattle.dj_expr_reader.specs.declared.machine.ExprMark.{ExprMark}
use Rattle.dj_expr_reader.specs.declared.machine.ExprMark.TheVariants as expr
use Rattle.dj_expr_reader.specs.Marks.{Mark, marks_of, marks_each, expr_of, SpellsMarks}
use Rattle.dj_expr_reader.specs.View.{plain_mark, plain_marks}
use Rattle.dj_expr_reader.proofs.OneExpression.{expr_of_marks}
use Rattle.dj_formula_reader.proofs.OneFormula.{each_operator}
use Rattle.dj_tree.specs.PostOrder.{finished}
use Rattle.dj_nodes.specs.PostOrder.{formula_arity, expr_arity, IsFormulaOrder, IsExprOrder}
use Rattle.dj_tree.proofs.Orders.{finished_more, tree_of, order_of_nodes}

-- ---- trees in another form

length_renamed : {N F : Type 0} (form : N → F) (ks : Trees N) → length (fold_each (renamed form) ks) ≡ length (list_of ks)
length_renamed form no_trees = refl
length_renamed form (tree_and t ks) = ap suc (length_renamed form ks)

module _ {N F : Type 0} (form : N → F) (arity : N → ℕ) (width : F → ℕ) (same : (n : N) → width (form n) ≡ arity n) where
  mutual
    full_in_form : (first at : ℕ) (t : Tree N) → EachNode (λ u _. HasArity arity u) first t → EachNode (λ u _. HasArity width u) at (in_form form t)
    full_in_form first at (branch n ks) full =
        (full_renamed first at ks full.0, ap length (list_of-trees_of (fold_each (renamed form) ks)) ∙ length_renamed form ks ∙ full.1 ∙ sym (same n))

    full_renamed : (first at : ℕ) (ks : Trees N) → EachNodeOf (λ u _. HasArity arity u) first ks → EachNodeOf (λ u _. HasArity width u) at (trees_of (fold_each (renamed form) ks))
    full_renamed first at no_trees full = tt
    full_renamed first at (tree_and t ks) full = (full_in_form first at t full.0, full_renamed (first + size t) (at + size (in_form form t)) ks full.1)

-- ---- formulas

pub formula_of_nodes : (a : Formula) → EachNode (λ u _. HasArity parts u) 0 a → formula_of (nodes a) ≡ a
formula_of_nodes a full = ap (λ l. unwrap_or (slice_get l 0) always) (trees-nodes parts 0 a full)

-- the formula of a tree's nodes in their forms is the tree in its form
pub formula_in_form : {N : Type 0} (form : N → FormulaForm) (arity : N → ℕ) (t : Tree N) → ((n : N) → parts (form n) ≡ arity n) → EachNode (λ u _. HasArity arity u) 0 t
    → formula_of (map form (nodes t)) ≡ in_form form t
formula_in_form form arity t same full =
    ap formula_of (sym (nodes_in_form form t)) ∙ formula_of_nodes (in_form form t) (full_in_form form arity parts same 0 0 t full)

formula_arity_is : (bytes : List ℕ) (mark : FormulaMark) → formula_arity mark ≡ parts (form_of bytes mark)
formula_arity_is bytes formula.True = refl
formula_arity_is bytes formula.False = refl
formula_arity_is bytes (formula.Feature x) = refl
formula_arity_is bytes formula.Not = refl
formula_arity_is bytes formula.And = refl
formula_arity_is bytes formula.Or = refl
formula_arity_is bytes formula.Implies = refl
formula_arity_is bytes formula.Same = refl

pub formula_arities : (bytes : List ℕ) (marks : List FormulaMark) → map formula_arity marks ≡ map parts (forms_of bytes marks)
formula_arities bytes [] = refl
formula_arities bytes (mark ∷ marks) = ap₂ (λ x xs. x ∷ xs) (formula_arity_is bytes mark) (formula_arities bytes marks)

-- the nodes of the formula are those that it was made of
pub formula_nodes : (bytes : List ℕ) (marks : List FormulaMark) → IsFormulaOrder marks → nodes (formula_of (forms_of bytes marks)) ≡ forms_of bytes marks
formula_nodes bytes marks order =
    let forms = forms_of bytes marks in
    let t = tree_of parts [] forms (ap (finished 0) (sym (formula_arities bytes marks)) ∙ order) in
    ap (λ ns. nodes (formula_of ns)) (sym t.same) ∙ ap nodes (formula_of_nodes t.tree t.full) ∙ t.same

pub formula_size : (bytes : List ℕ) (marks : List FormulaMark) → IsFormulaOrder marks → size (formula_of (forms_of bytes marks)) ≡ length marks
formula_size bytes marks order =
    sym (length-nodes (formula_of (forms_of bytes marks))) ∙ ap length (formula_nodes bytes marks order) ∙ length-map marks (form_of bytes)

pub formula_order : (bytes : List ℕ) (symbols : List Symbol) (marks : List FormulaMark) → SpellsNodes symbols (forms_of bytes marks) → IsFormulaOrder marks
formula_order bytes symbols marks p =
    ap (finished 0) (formula_arities bytes marks ∙ ap (map parts) p.same) ∙ order_of_nodes parts 0 p.value (each_operator p.spelled 0)

-- ---- expressions

-- what a mark says: the form of the node, and how many children it has
abbrev pub form : Mark → ExprForm
form mark = mark.0

abbrev pub width : Mark → ℕ
width mark = mark.1

-- the marks of a tree in its form
module _ {N : Type 0} (form_of_node : N → ExprForm) (arity : N → ℕ) where
  abbrev pub mark : N → Mark
  mark n = (form_of_node n, arity n)

  mutual
    marks_in_form : (first : ℕ) (t : Tree N) → EachNode (λ u _. HasArity arity u) first t → marks_of (in_form form_of_node t) ≡ map mark (nodes t)
    marks_in_form first (branch n ks) full =
        let count : length (list_of (trees_of (fold_each (renamed form_of_node) ks))) ≡ arity n =
        ap length (list_of-trees_of (fold_each (renamed form_of_node) ks)) ∙ length_renamed form_of_node ks ∙ full.1 in
        ap₂ (λ ms k. ms ++ (form_of_node n, k) ∷ []) (marks_renamed first ks full.0) count ∙ sym (map-append mark (nodes_each ks) (n ∷ []))

    marks_renamed : (first : ℕ) (ks : Trees N) → EachNodeOf (λ u _. HasArity arity u) first ks → marks_each (trees_of (fold_each (renamed form_of_node) ks)) ≡ map mark (nodes_each ks)
    marks_renamed first no_trees full = refl
    marks_renamed first (tree_and t ks) full =
        ap₂ (λ x y. x ++ y) (marks_in_form first t full.0) (marks_renamed (first + size t) ks full.1) ∙ sym (map-append mark (nodes t) (nodes_each ks))

  -- the expression of a tree's nodes in their forms is the tree in its form
  pub expr_in_form : (t : Tree N) → EachNode (λ u _. HasArity arity u) 0 t → expr_of (map mark (nodes t)) ≡ in_form form_of_node t
  expr_in_form t full = ap expr_of (sym (marks_in_form 0 t full)) ∙ expr_of_marks (in_form form_of_node t)

mutual
  marks_finish : (e : Expr) (count : ℕ) (rest : List ℕ) → finished count (map width (marks_of e) ++ rest) ≡ finished (count + 1) rest
  marks_finish (branch form es) count rest =
      let k = length (list_of es) in
      ap (λ xs. finished count (xs ++ rest)) (map-append width (marks_each es) ((form, k) ∷ [])) ∙ ap (finished count) (append_assoc (map width (marks_each es)) (k ∷ []) rest)
      ∙ each_finish es count (k ∷ rest) ∙ finished_more (count + k) k rest (omega arith) ∙ ap (λ c. finished c rest) (omega arith)

  each_finish : (es : Trees ExprForm) (count : ℕ) (rest : List ℕ) → finished count (map width (marks_each es) ++ rest) ≡ finished (count + length (list_of es)) rest
  each_finish no_trees count rest = ap (λ c. finished c rest) (omega arith)
  each_finish (tree_and e es) count rest =
      ap (λ xs. finished count (xs ++ rest)) (map-append width (marks_of e) (marks_each es)) ∙ ap (finished count) (append_assoc (map width (marks_of e)) (map width (marks_each es)) rest)
      ∙ marks_finish e count (map width (marks_each es) ++ rest) ∙ each_finish es (count + 1) rest ∙ ap (λ c. finished c rest) (omega arith)

expr_arity_is : (bytes : List ℕ) (mark : ExprMark) → expr_arity mark ≡ width (plain_mark bytes mark)
expr_arity_is bytes (expr.Variable x) = refl
expr_arity_is bytes (expr.This token) = refl
expr_arity_is bytes (expr.Null token) = refl
expr_arity_is bytes (expr.Field f) = refl
expr_arity_is bytes (expr.Call m arguments) = refl
expr_arity_is bytes (expr.New class) = refl
expr_arity_is bytes (expr.Cast class) = refl
expr_arity_is bytes (expr.Assign f) = refl
expr_arity_is bytes (expr.Original token arguments) = refl

pub expr_arities : (bytes : List ℕ) (marks : List ExprMark) → map expr_arity marks ≡ map width (plain_marks bytes marks)
expr_arities bytes [] = refl
expr_arities bytes (mark ∷ marks) = ap₂ (λ x xs. x ∷ xs) (expr_arity_is bytes mark) (expr_arities bytes marks)

pub expr_order : (dialect : Dialect) (bytes : List ℕ) (symbols : List Symbol) (marks : List ExprMark) → SpellsMarks dialect symbols (plain_marks bytes marks) → IsExprOrder marks
expr_order dialect bytes symbols marks p =
    ap (finished 0) (expr_arities bytes marks ∙ ap (map width) p.same ∙ sym (append-nil (map width (marks_of p.value)))) ∙ marks_finish p.value 0 []

map_self : (ms : List Mark) → map (mark form width) ms ≡ ms
map_self [] = refl
map_self (m ∷ ms) = ap (λ xs. m ∷ xs) (map_self ms)

-- the nodes of the expression are those that it was made of
pub expr_nodes : (bytes : List ℕ) (marks : List ExprMark) → IsExprOrder marks → nodes (expr_of (plain_marks bytes marks)) ≡ map form (plain_marks bytes marks)
expr_nodes bytes marks order =
    let ms = plain_marks bytes marks in
    let t = tree_of width [] ms (ap (finished 0) (sym (expr_arities bytes marks)) ∙ order) in
    ap (λ xs. nodes (expr_of xs)) (sym (map_self ms) ∙ ap (map (mark form width)) (sym t.same)) ∙ ap nodes (expr_in_form form width t.tree t.full)
    ∙ nodes_in_form form t.tree ∙ ap (map form) t.same

pub expr_size : (bytes : List ℕ) (marks : List ExprMark) → IsExprOrder marks → size (expr_of (plain_marks bytes marks)) ≡ length marks
expr_size bytes marks order =
    sym (length-nodes (expr_of (plain_marks bytes marks))) ∙ ap length (expr_nodes bytes marks order) ∙ length-map (plain_marks bytes marks) form ∙ length-map marks (plain_mark bytes)
