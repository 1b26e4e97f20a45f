-- What names and nodes stand for stays while tables of names and arenas grow.
--
-- | You want | Use |
-- |---|---|
-- | a name that was known is known later, and stands for the same | known_later, kept_spot |
-- | the same of nodes, and of all nodes of an arena | formula_node_later, expr_node_later, formula_nodes_later, expr_nodes_later |
-- | a formula or an expression at a number stays | kept_formula, kept_expr |
-- | nodes that grow in no step, and in two | keeps_reflexive, keeps_transitive |
use Rattle.std.proofs.Common.{◌≡◌, ℕ, ◌+◌, ◌<◌, List, [], ◌∷◌, ◌++◌, length, take, slice_get, Some, refl, sym, ap, ap₂, ◌∙◌, subst, append_assoc, length-append, arith}
use Rattle.std.specs.Prelude.{unwrap_or, All}
use Rattle.std.specs.Option.{option_map}
use Rattle.std.proofs.lemmas.List.{append-nil}
use Rattle.std.proofs.lemmas.List.Elements.{All-weaker, All-get_or}
use Rattle.std.proofs.lemmas.Option.{get_or_from_slice_get, slice_get_within}
use Rattle.dj_names.specs.Texts.{Text, Extends}
use Rattle.arena_walk.specs.Tree.{Tree, Trees, branch, no_trees, tree_and, root_of, size, over, EachNode, EachNodeOf, fold_each}
use Rattle.arena_walk.specs.Forest.{last_trees, trees, tree_at, first_number}
use Rattle.arena_walk.proofs.TreeLemmas.{drop_at_place}
use Rattle.arena_walk.proofs.ForestLemmas.{slice_get-append}
use Rattle.arena_walk.proofs.Visitors.{each_root, tree_at-append, tree_at_node}
use Rattle.dj_tree.specs.Trees.{always, null_at}
use Rattle.dj_tree.specs.Arities.{formula_arity, expr_arity}
use Rattle.dj_tree.specs.Plain.{plain_spot, formula_form, expr_form, in_form, plain_formula, plain_expr}
use Rattle.dj_tree.specs.WellFormed.{IsKnown, IsFormulaNode, IsExprNode}
use Rattle.dj_tree.specs.declared.declarations.Spot.{Spot}
use Rattle.dj_tree.specs.declared.formula.FormulaNode.{FormulaNode}
use Rattle.dj_tree.specs.declared.formula.FormulaNode.TheVariants as formula
use Rattle.dj_tree.specs.declared.expression.ExprNode.{ExprNode}
use Rattle.dj_tree.specs.declared.expression.ExprNode.TheVariants as expr
use Rattle.dj_tree.specs.PostOrder.{KeepsNodes}

pub keeps_reflexive : {N : Type 0} (ns : List N) → KeepsNodes ns ns
keeps_reflexive ns = ([], sym (append-nil ns))

pub keeps_transitive : {N : Type 0} (ns between later : List N) → KeepsNodes ns between → KeepsNodes between later → KeepsNodes ns later
keeps_transitive ns between later e h = (e.0 ++ h.0, h.1 ∙ ap (λ xs. xs ++ h.0) e.1 ∙ append_assoc ns e.0 h.0)

-- ---- names

pub known_later : (names later : List Text) (x : Spot) → Extends names later → IsKnown names x → IsKnown later x
known_later names later x e h = omega (arith, ap length e.1, length-append names e.0)

pub kept_spot : (names later : List Text) (x : Spot) → Extends names later → IsKnown names x → plain_spot later x ≡ plain_spot names x
kept_spot names later x e h =
    let same : slice_get later x.name.0 ≡ slice_get names x.name.0 = ap (λ l. slice_get l x.name.0) e.1 ∙ slice_get-append names e.0 x.name.0 h in
    ap (λ o. record { text = unwrap_or o []; at = x.at }) same

-- ---- nodes

pub formula_node_later : (names later : List Text) (n : FormulaNode) → Extends names later → IsFormulaNode names n → IsFormulaNode later n
formula_node_later names later formula.True e h = tt
formula_node_later names later formula.False e h = tt
formula_node_later names later (formula.Feature x) e h = known_later names later x e h
formula_node_later names later formula.Not e h = tt
formula_node_later names later formula.And e h = tt
formula_node_later names later formula.Or e h = tt
formula_node_later names later formula.Implies e h = tt
formula_node_later names later formula.Same e h = tt

pub kept_formula_form : (names later : List Text) (n : FormulaNode) → Extends names later → IsFormulaNode names n → formula_form later n ≡ formula_form names n
kept_formula_form names later formula.True e h = refl
kept_formula_form names later formula.False e h = refl
kept_formula_form names later (formula.Feature x) e h = let same = kept_spot names later x e h in cc
kept_formula_form names later formula.Not e h = refl
kept_formula_form names later formula.And e h = refl
kept_formula_form names later formula.Or e h = refl
kept_formula_form names later formula.Implies e h = refl
kept_formula_form names later formula.Same e h = refl

pub expr_node_later : (names later : List Text) (n : ExprNode) → Extends names later → IsExprNode names n → IsExprNode later n
expr_node_later names later (expr.Variable x) e h = known_later names later x e h
expr_node_later names later (expr.This at) e h = tt
expr_node_later names later (expr.Null at) e h = tt
expr_node_later names later (expr.Field f) e h = known_later names later f e h
expr_node_later names later (expr.Call m arguments) e h = known_later names later m e h
expr_node_later names later (expr.New class) e h = known_later names later class e h
expr_node_later names later (expr.Cast class) e h = known_later names later class e h
expr_node_later names later (expr.Assign f) e h = known_later names later f e h
expr_node_later names later (expr.Original at arguments) e h = tt

pub kept_expr_form : (names later : List Text) (n : ExprNode) → Extends names later → IsExprNode names n → expr_form later n ≡ expr_form names n
kept_expr_form names later (expr.Variable x) e h = let same = kept_spot names later x e h in cc
kept_expr_form names later (expr.This at) e h = refl
kept_expr_form names later (expr.Null at) e h = refl
kept_expr_form names later (expr.Field f) e h = let same = kept_spot names later f e h in cc
kept_expr_form names later (expr.Call m arguments) e h = let same = kept_spot names later m e h in cc
kept_expr_form names later (expr.New class) e h = let same = kept_spot names later class e h in cc
kept_expr_form names later (expr.Cast class) e h = let same = kept_spot names later class e h in cc
kept_expr_form names later (expr.Assign f) e h = let same = kept_spot names later f e h in cc
kept_expr_form names later (expr.Original at arguments) e h = refl

pub formula_nodes_later : (names later : List Text) (ns : List FormulaNode) → Extends names later → All (IsFormulaNode names) ns → All (IsFormulaNode later) ns
formula_nodes_later names later ns e h = All-weaker (IsFormulaNode names) (IsFormulaNode later) (λ n k. formula_node_later names later n e k) ns h

pub expr_nodes_later : (names later : List Text) (ns : List ExprNode) → Extends names later → All (IsExprNode names) ns → All (IsExprNode later) ns
expr_nodes_later names later ns e h = All-weaker (IsExprNode names) (IsExprNode later) (λ n k. expr_node_later names later n e k) ns h

-- ---- trees

-- a tree in two forms that are the same at each of its nodes
module _ {N F : Type 0} (form other : N → F) (P : N → Type 0) (same : (n : N) → P n → form n ≡ other n) where
  mutual
    in_same_form : (first : ℕ) (t : Tree N) → EachNode (λ u _. P (root_of u)) first t → in_form form t ≡ in_form other t
    in_same_form first (branch n ks) h = ap₂ (λ f ts. over f ts) (same n h.1) (each_in_same_form first ks h.0)

    each_in_same_form : (first : ℕ) (ks : Trees N) → EachNodeOf (λ u _. P (root_of u)) first ks
        → fold_each (λ n parts. over (form n) parts) ks ≡ fold_each (λ n parts. over (other n) parts) ks
    each_in_same_form first no_trees h = refl
    each_in_same_form first (tree_and t ks) h = ap₂ (λ x xs. x ∷ xs) (in_same_form first t h.0) (each_in_same_form (first + size t) ks h.1)

-- an element of a list
pub at_number : {N : Type 0} (P : N → Type 0) (ns : List N) (k : ℕ) (n : N) → All P ns → slice_get ns k ≡ Some n → P n
at_number {N} P ns k n all e = subst (λ (m : N). P m) (get_or_from_slice_get ns k n n e) (All-get_or P ns k n (slice_get_within ns k n e) all)

-- the tree at a number in the forms of its nodes stays, where each node's form does
kept_tree : {N F : Type 0} (arity : N → ℕ) (form other : N → F) (P : N → Type 0) (none : Tree F) (ns later : List N) (root : ℕ) → ((n : N) → P n → form n ≡ other n) → KeepsNodes ns later → All P ns → root < length ns
    → unwrap_or (option_map (in_form form) (tree_at arity later root)) none ≡ unwrap_or (option_map (in_form other) (tree_at arity ns root)) none
kept_tree {N} {F} arity form other P none ns later root same e all below =
    let node = drop_at_place ns root below in
    let t = over node.0 (last_trees arity (trees arity (take root ns)) node.0) in
    let here : tree_at arity ns root ≡ Some t = tree_at_node arity ns root node.0 node.2 in
    let there : tree_at arity later root ≡ Some t = ap (λ xs. tree_at arity xs root) e.1 ∙ tree_at-append arity ns e.0 root below ∙ here in
    let known = each_root P arity ns root t (λ k n is. at_number P ns k n all is) here in
    ap (λ o. unwrap_or (option_map (in_form form) o) none) there ∙ in_same_form form other P same (first_number root t) t known
    ∙ ap (λ o. unwrap_or (option_map (in_form other) o) none) (sym here)

pub kept_formula : (names later : List Text) (formulas more : List FormulaNode) (root : ℕ) → Extends names later → KeepsNodes formulas more → All (IsFormulaNode names) formulas → root < length formulas
    → plain_formula later more root ≡ plain_formula names formulas root
kept_formula names later formulas more root e h all below =
    kept_tree formula_arity (formula_form later) (formula_form names) (IsFormulaNode names) always formulas more root (λ n k. kept_formula_form names later n e k) h all below

pub kept_expr : (names later : List Text) (exprs more : List ExprNode) (root : ℕ) → Extends names later → KeepsNodes exprs more → All (IsExprNode names) exprs → root < length exprs
    → plain_expr later more root ≡ plain_expr names exprs root
kept_expr names later exprs more root e h all below =
    kept_tree expr_arity (expr_form later) (expr_form names) (IsExprNode names) (null_at 0) exprs more root (λ n k. kept_expr_form names later n e k) h all below
