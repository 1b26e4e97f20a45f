-- The loop that copies the nodes of an expression, which ends in the same expression.
use Rattle.std.proofs.Common.{◌≡◌, ℕ, zero, suc, ◌+◌, ◌-◌, ◌<◌, ◌≤◌, List, [], ◌∷◌, ◌++◌, length, map, take, drop, get_or, slice_get, Some, refl, sym, ap, ap₂, ◌∙◌, subst, length-append, length-take, length-drop, arith}
use Rattle.std.specs.Prelude.{unwrap_or, All}
use Rattle.std.specs.Option.{option_map}
use Rattle.std.proofs.lemmas.List.{append-nil, length-map, take_all}
use Rattle.std.proofs.lemmas.List.Elements.{All-nil}
use Rattle.std.proofs.lemmas.Simd.{map-map}
use Rattle.std.proofs.lemmas.Option.{slice_get_within, get_or_from_slice_get}
use Rattle.dj_names.specs.Texts.{Text, Extends}
use Rattle.dj_names.proofs.Extending.{extends_reflexive}
use Rattle.arena_walk.specs.Tree.{Tree, Trees, branch, no_trees, tree_and, trees_of, list_of, over, size, nodes, EachNode, EachNodeOf, fold_each}
use Rattle.arena_walk.specs.Forest.{trees, tree_at, first_number, HasArity}
use Rattle.arena_walk.proofs.TreeLemmas.{length-nodes, list_of-trees_of}
use Rattle.arena_walk.proofs.ForestLemmas.{tree_at_within}
use Rattle.arena_walk.proofs.Visitors.{nodes_to, same_from_nodes}
use Rattle.dj_tree.specs.Trees.{Expr, ExprForm, null_at}
use Rattle.dj_tree.specs.Arities.{expr_arity}
use Rattle.dj_tree.specs.Plain.{expr_form, in_form, plain_expr}
use Rattle.dj_tree.specs.PostOrder.{IsPostOrder, KeepsNodes}
use Rattle.dj_tree.specs.WellFormed.{IsExprNode}
use Rattle.dj_tree.specs.declared.expression.ExprNode.{ExprNode}
use Rattle.dj_tree.proofs.InForm.{nodes_in_form}
use Rattle.dj_tree.proofs.Growing.{kept_expr_form, expr_node_later}
use Rattle.dj_tree.proofs.Orders.{order_of_nodes}
use Rattle.dj_tree.proofs.Filling.{Filled, filled_next, filled_enough, filled_all}

-- ---- trees by the forms and the arities of their nodes

abbrev Label : Type 0
Label = ExprForm × ℕ

abbrev label : List Text → ExprNode → Label
label names n = (expr_form names n, expr_arity n)

abbrev count_of : Label → ℕ
count_of l = l.1

abbrev form_of : Label → ExprForm
form_of l = l.0

mutual
  form_of_labels : (names : List Text) (t : Tree ExprNode) → in_form form_of (in_form (label names) t) ≡ in_form (expr_form names) t
  form_of_labels names (branch n kids) = ap (branch (expr_form names n)) (ap trees_of (forms_of_labels names kids))

  forms_of_labels : (names : List Text) (kids : Trees ExprNode)
      → fold_each (λ l parts. over (form_of l) parts) (trees_of (fold_each (λ n parts. over (label names n) parts) kids)) ≡ fold_each (λ n parts. over (expr_form names n) parts) kids
  forms_of_labels names no_trees = refl
  forms_of_labels names (tree_and t kids) = ap₂ (λ x xs. x ∷ xs) (form_of_labels names t) (forms_of_labels names kids)

as_many : (names : List Text) (kids : Trees ExprNode) → length (fold_each (λ n parts. over (label names n) parts) kids) ≡ length (list_of kids)
as_many names no_trees = refl
as_many names (tree_and t kids) = ap suc (as_many names kids)

mutual
  labels_full : (names : List Text) (first other : ℕ) (t : Tree ExprNode) → EachNode (λ u _. HasArity expr_arity u) first t → EachNode (λ u _. HasArity count_of u) other (in_form (label names) t)
  labels_full names first other (branch n kids) full =
      (labels_full_each names first other kids full.0, ap length (list_of-trees_of (fold_each (λ n parts. over (label names n) parts) kids)) ∙ as_many names kids ∙ full.1)

  labels_full_each : (names : List Text) (first other : ℕ) (kids : Trees ExprNode) → EachNodeOf (λ u _. HasArity expr_arity u) first kids
      → EachNodeOf (λ u _. HasArity count_of u) other (trees_of (fold_each (λ n parts. over (label names n) parts) kids))
  labels_full_each names first other no_trees full = tt
  labels_full_each names first other (tree_and t kids) full =
      (labels_full names first other t full.0, labels_full_each names (first + size t) (other + size (in_form (label names) t)) kids full.1)

-- trees whose nodes have the same forms and arities, in order, are the same expression
same_expression : (names later : List Text) (first other : ℕ) (t s : Tree ExprNode) → EachNode (λ u _. HasArity expr_arity u) first t → EachNode (λ u _. HasArity expr_arity u) other s
    → map (label later) (nodes t) ≡ map (label names) (nodes s) → in_form (expr_form later) t ≡ in_form (expr_form names) s
same_expression names later first other t s full whole same =
    let labelled = same_from_nodes count_of 0 (in_form (label later) t) (in_form (label names) s) (labels_full later first 0 t full) (labels_full names other 0 s whole)
    (nodes_in_form (label later) t ∙ same ∙ sym (nodes_in_form (label names) s)) in
    sym (form_of_labels later t) ∙ ap (in_form form_of) labelled ∙ form_of_labels names s

-- ---- the nodes of the expression that is copied

none_in_none : (X : Type 0) (i n : ℕ) → slice_get {X = X} [] i ≡ slice_get [] n
none_in_none X i n = refl

at_drop : {X : Type 0} (k i : ℕ) (xs : List X) → slice_get (drop k xs) i ≡ slice_get xs (k + i)
at_drop zero i xs = let same : i ≡ 0 + i = omega arith in ap (slice_get xs) same
at_drop {X} (suc k) i [] = none_in_none X i (suc k + i)
at_drop (suc k) i (x ∷ xs) = let same : suc (k + i) ≡ suc k + i = omega arith in at_drop k i xs ∙ ap (slice_get (x ∷ xs)) same

at_take : {X : Type 0} (n i : ℕ) (xs : List X) → i < n → slice_get (take n xs) i ≡ slice_get xs i
at_take zero i xs low = absurd (omega arith)
at_take (suc n) i [] low = refl
at_take (suc n) zero (x ∷ xs) low = refl
at_take (suc n) (suc i) (x ∷ xs) low = at_take n i xs (omega arith)

-- the nodes of a tree are those of the arena from its first on
node_of_tree : (ns : List ExprNode) (root : ℕ) (t : Tree ExprNode) (number : ℕ) → tree_at expr_arity ns root ≡ Some t → first_number root t ≤ number → number < root + 1
    → slice_get (nodes t) (number - first_number root t) ≡ slice_get ns number
node_of_tree ns root t number at above below =
    ap (λ xs. slice_get xs (number - first_number root t)) (sym (nodes_to expr_arity ns root t at))
    ∙ at_drop (first_number root t) (number - first_number root t) (take (root + 1) ns)
    ∙ ap (slice_get (take (root + 1) ns)) back ∙ at_take (root + 1) number ns below
  where
    back : first_number root t + (number - first_number root t) ≡ number
    back = omega arith

as_many_nodes : (ns : List ExprNode) (root : ℕ) (t : Tree ExprNode) → tree_at expr_arity ns root ≡ Some t → length (nodes t) ≡ root + 1 - first_number root t
as_many_nodes ns root t at =
    omega (arith, ap length (nodes_to expr_arity ns root t at), length-drop (first_number root t) (take (root + 1) ns), length-take (root + 1) ns, tree_at_within expr_arity ns root t at)

pub size_of_form : (names : List Text) (t : Tree ExprNode) → size (in_form (expr_form names) t) ≡ length (nodes t)
size_of_form names t = sym (length-nodes (in_form (expr_form names) t)) ∙ ap length (nodes_in_form (expr_form names) t) ∙ length-map (nodes t) (expr_form names)

-- ---- the loop

weighs : (names : List Text) (n : ExprNode) → count_of (label names n) ≡ expr_arity n
weighs names n = refl

stays : (names later : List Text) (n : ExprNode) → Extends names later → IsExprNode names n → label later n ≡ label names n
stays names later n e h = ap (λ f. (f, expr_arity n)) (kept_expr_form names later n e h)

-- The nodes below this number are copied.
pub record Copied (from : List Text) (exprs : List ExprNode) (root number : ℕ) (names later : List Text) (old new : List ExprNode) (own : ℕ) : Type 0 where
  pub tree : Tree ExprNode
  pub at : tree_at expr_arity exprs root ≡ Some tree
  pub full : EachNode (λ u _. HasArity expr_arity u) (first_number root tree) tree
  pub above : first_number root tree ≤ number
  pub below : number ≤ root + 1
  pub filled : Filled label IsExprNode (label from) (take (number - first_number root tree) (nodes tree)) names later old new own

pub copied_start : (from : List Text) (exprs : List ExprNode) (root first : ℕ) (names : List Text) (old : List ExprNode) (tree : Tree ExprNode) (own : ℕ) → tree_at expr_arity exprs root ≡ Some tree
    → EachNode (λ u _. HasArity expr_arity u) (first_number root tree) tree → first ≡ first_number root tree → first ≤ root → Copied from exprs root first names names old old own
copied_start from exprs root first names old tree own at full is low = record {
  tree = tree;
  at = at;
  full = full;
  above = omega arith;
  below = omega arith;
  filled = subst (λ n. Filled label IsExprNode (label from) (take n (nodes tree)) names names old old own) none nothing_yet;
}
  where
    none : 0 ≡ first - first_number root tree
    none = omega (arith, is)

    nothing_yet : Filled label IsExprNode (label from) (take 0 (nodes tree)) names names old old own
    nothing_yet = record {
      added = [];
      all = sym (append-nil old);
      same = refl;
      known = All-nil (IsExprNode names);
      grown = extends_reflexive names;
      few = omega arith;
      root_is = λ some. absurd (omega arith);
    }

module _ (from : List Text) (exprs : List ExprNode) (root number : ℕ) (names later : List Text) (old new : List ExprNode) (own : ℕ) (done : Copied from exprs root number names later old new own) where
  order : IsPostOrder (map count_of (map (label from) (nodes done.tree)))
  order = subst IsPostOrder (sym (map-map count_of (label from) (nodes done.tree))) (order_of_nodes expr_arity (first_number root done.tree) done.tree done.full)

  -- the node at this number finds enough trees
  pub copied_enough : (node : ExprNode) → number < root + 1 → slice_get exprs number ≡ Some node → expr_arity node ≤ length (trees expr_arity new)
  copied_enough node low here =
      filled_enough expr_arity label IsExprNode (label from) count_of weighs stays expr_node_later (nodes done.tree) (number - first_number root done.tree) node names later old new own order
      (node_of_tree exprs root done.tree number done.at done.above low ∙ here) done.filled

  -- and one more is copied
  pub copied_next : (node : ExprNode) (after : List Text) (newer : List ExprNode) (copy : ℕ) → number < root + 1 → slice_get exprs number ≡ Some node → Extends later after → length after ≤ length later + 1
      → copy ≡ length new
      → (n : ExprNode) × (newer ≡ new ++ n ∷ []) × (expr_form after n ≡ expr_form from node) × (expr_arity n ≡ expr_arity node) × IsExprNode after n
      → Copied from exprs root (number + 1) names after old newer copy
  copied_next node after newer copy low here grown few at added = record {
    tree = done.tree;
    at = done.at;
    full = done.full;
    above = omega (arith, done.above);
    below = omega arith;
    filled = subst (λ n. Filled label IsExprNode (label from) (take n (nodes done.tree)) names after old newer copy) one_more
        (filled_next expr_arity label IsExprNode (label from) count_of weighs stays expr_node_later (nodes done.tree) (number - first_number root done.tree) node names later after old new newer own copy added.0
        (slice_get_within (nodes done.tree) (number - first_number root done.tree) node there) done.filled grown few added.1 at
        (ap₂ (λ f k. (f, k)) added.2 added.3 ∙ ap (label from) (sym (get_or_from_slice_get (nodes done.tree) (number - first_number root done.tree) node node there))) added.4);
  }
    where
      one_more : number - first_number root done.tree + 1 ≡ number + 1 - first_number root done.tree
      one_more = omega (arith, done.above)

      there : slice_get (nodes done.tree) (number - first_number root done.tree) ≡ Some node
      there = node_of_tree exprs root done.tree number done.at done.above low ∙ here

  pub copied_few : (length later ≤ length names + (number - first_number root done.tree)) × (length new ≡ length old + (number - first_number root done.tree))
      × (number - first_number root done.tree ≤ size (plain_expr from exprs root)) × (number ≤ root → number - first_number root done.tree < size (plain_expr from exprs root))
  copied_few =
      let many = as_many_nodes exprs root done.tree done.at in
      let so_far = length-take (number - first_number root done.tree) (nodes done.tree) in
      let added : length done.filled.added ≡ length (take (number - first_number root done.tree) (nodes done.tree)) =
      sym (length-map done.filled.added (label later)) ∙ ap length done.filled.same ∙ length-map (take (number - first_number root done.tree) (nodes done.tree)) (label from) in
      let whole : size (plain_expr from exprs root) ≡ length (nodes done.tree) = ap (λ o. size (unwrap_or (option_map (in_form (expr_form from)) o) (null_at 0))) done.at ∙ size_of_form from done.tree in (
        omega (arith, done.filled.few, so_far, many, done.below),
        omega (arith, ap length done.filled.all, length-append old done.filled.added, added, so_far, many, done.below),
        omega (arith, whole, many, done.below),
        λ low. omega (arith, whole, many, done.above),
      )

  pub copied_kept : Extends names later × KeepsNodes old new
  copied_kept = (done.filled.grown, (done.filled.added, done.filled.all))

  -- all are copied
  pub copied_all : number ≡ root + 1 → (plain_expr later new own ≡ plain_expr from exprs root) × (own < length new)
  copied_all end =
      let many = as_many_nodes exprs root done.tree done.at in
      let all : take (number - first_number root done.tree) (nodes done.tree) ≡ nodes done.tree = take_all (number - first_number root done.tree) (nodes done.tree) (omega arith) in
      let filled = subst (λ ns. Filled label IsExprNode (label from) ns names later old new own) all done.filled in
      let t = filled_all expr_arity label IsExprNode (label from) count_of weighs stays expr_node_later (nodes done.tree) names later old new own order filled in (
        ap (λ o. unwrap_or (option_map (in_form (expr_form later)) o) (null_at 0)) t.1
            ∙ same_expression from later 0 (first_number root done.tree) t.0 done.tree t.3 done.full t.2
            ∙ ap (λ o. unwrap_or (option_map (in_form (expr_form from)) o) (null_at 0)) (sym done.at),
        t.4,
      )
