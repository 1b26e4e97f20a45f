-- Trees of gates are a set, so that what a formula stands for has one proof at most.
use mathlib.Core.Path.{◌≡◌, refl, sym, ap, ◌∙◌}
use mathlib.Core.HLevel.{collapsible→set}
use Rattle.std.proofs.Props.{props}
use Rattle.std.specs.Prelude.{ℕ, suc, ◌+◌, List, [], ◌∷◌, length, map, slice_index_or}
use Rattle.arena_walk.specs.Tree.{Tree, Trees, branch, no_trees, tree_and, list_of, size, EachNode, EachNodeOf, nodes}
use Rattle.arena_walk.specs.Forest.{trees, HasArity}
use Rattle.arena_walk.proofs.Visitors.{trees-nodes}
use Rattle.dj_tree.specs.Trees as plain
use Rattle.dj_formula.specs.declared.formula.Gate.{Gate}
use Rattle.dj_formula.specs.declared.formula.Formula.{Formula}
use Rattle.dj_conditions.specs.Conditions.{StandsFor}

-- the tree with the number of children beside each node
abbrev mutual
  counted : {N : Type 0} → Tree N → Tree (N × ℕ)
  counted (branch n ks) = branch (n, length (list_of ks)) (counted_each ks)

  counted_each : {N : Type 0} → Trees N → Trees (N × ℕ)
  counted_each no_trees = no_trees
  counted_each (tree_and t ks) = tree_and (counted t) (counted_each ks)

-- the tree with each node changed
abbrev mutual
  changed : {A B : Type 0} (f : A → B) → Tree A → Tree B
  changed f (branch n ks) = branch (f n) (changed_each f ks)

  changed_each : {A B : Type 0} (f : A → B) → Trees A → Trees B
  changed_each f no_trees = no_trees
  changed_each f (tree_and t ks) = tree_and (changed f t) (changed_each f ks)

-- the tree without the numbers
abbrev plain_tree : {N : Type 0} → Tree (N × ℕ) → Tree N
plain_tree t = changed (λ n. n.0) t

mutual
  plain_counted : {N : Type 0} (t : Tree N) → changed (λ n. n.0) (counted t) ≡ t
  plain_counted (branch n ks) = ap (branch n) (plain_counted_each ks)

  plain_counted_each : {N : Type 0} (ks : Trees N) → changed_each (λ n. n.0) (counted_each ks) ≡ ks
  plain_counted_each no_trees = refl
  plain_counted_each (tree_and t ks) = ap (λ u. tree_and u (changed_each (λ n. n.0) (counted_each ks))) (plain_counted t) ∙ ap (tree_and t) (plain_counted_each ks)

length-counted : {N : Type 0} (ks : Trees N) → length (list_of (counted_each ks)) ≡ length (list_of ks)
length-counted no_trees = refl
length-counted (tree_and t ks) = ap (λ k. suc k) (length-counted ks)

mutual
  all_counted : {N : Type 0} (first : ℕ) (t : Tree N) → EachNode (λ (u : Tree (N × ℕ)) _. HasArity (λ n. n.1) u) first (counted t)
  all_counted first (branch n ks) = (each_counted first ks, length-counted ks)

  each_counted : {N : Type 0} (first : ℕ) (ks : Trees N) → EachNodeOf (λ (u : Tree (N × ℕ)) _. HasArity (λ n. n.1) u) first (counted_each ks)
  each_counted first no_trees = tt
  each_counted first (tree_and t ks) = (all_counted first t, each_counted (first + size (counted t)) ks)

-- the nodes of a tree beside their numbers of children, and the tree that they make
abbrev listed : {N : Type 0} → Tree N → List (N × ℕ)
listed t = nodes (counted t)

abbrev made : {N : Type 0} → List (N × ℕ) → List (Tree N)
made ns = map plain_tree (trees (λ n. n.1) ns)

made_listed : {N : Type 0} (t : Tree N) → made (listed t) ≡ t ∷ []
made_listed t = ap (map plain_tree) (trees-nodes (λ n. n.1) 0 (counted t) (all_counted 0 t)) ∙ ap (λ u. u ∷ []) (plain_counted t)

-- a type that maps into a set, and whose equations come from there
pub Tree-set : {N : Type 0} → IsSet N → IsSet (Tree N)
Tree-set {N} set =
    let listed_set : IsSet (List (N × ℕ)) = hlevel (props, set) in
    let back = λ (x y : Tree N) (p : listed x ≡ listed y). ap (λ ts. slice_index_or ts 0 x) (sym (made_listed x) ∙ ap made p ∙ made_listed y) in
    collapsible→set (λ x y p. back x y (ap listed p)) (λ x y p q. ap (back x y) (listed_set (listed x) (listed y) (ap listed p) (ap listed q)))

Gate-set : IsSet Gate
Gate-set = hlevel props

pub StandsFor-prop : (source : plain.Source) (formula : Formula) (meant : plain.Formula) → IsProp (StandsFor source formula meant)
StandsFor-prop source formula meant = let gates : IsSet (Tree Gate) = Tree-set Gate-set in hlevel (props, gates)
