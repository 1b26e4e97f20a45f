-- Nodes in post-order make one tree, and the nodes of a tree are in post-order.
use Rattle.std.proofs.Common.{◌≡◌, ℕ, ◌+◌, ◌-◌, ◌≤◌, List, [], ◌∷◌, ◌++◌, length, map, take, drop, fold, Some, None, refl, sym, ap, ◌∙◌, subst, append_assoc, length-append, length-take, length-drop, arith}
use Rattle.std.specs.Prelude.{nat_le}
use Rattle.std.proofs.lemmas.List.{append-nil, take-append-drop, map-append}
use Rattle.std.proofs.lemmas.Bool.{leb-true, leb-false, cond_both}
use Rattle.arena_walk.specs.Tree.{Tree, Trees, branch, no_trees, tree_and, trees_of, list_of, over, size, nodes, nodes_each, EachNode, EachNodeOf}
use Rattle.arena_walk.specs.Forest.{grow, trees, HasArity}
use Rattle.arena_walk.proofs.TreeLemmas.{list_of-trees_of, nodes_each-append, EachNodeOf-append, EachNodeOf-split}
use Rattle.arena_walk.proofs.ForestLemmas.{trees-append, grow-append}
use Rattle.dj_tree.specs.PostOrder.{finished, IsPostOrder}

-- ---- the count

-- a node that finds enough trees, and what is finished behind the others
pub finished_more : (count arity : ℕ) (rest : List ℕ) → arity ≤ count → finished count (arity ∷ rest) ≡ finished (count - arity + 1) rest
finished_more count arity rest h =
    cond_both (nat_le arity count) (finished (count - arity + 1) rest) None (λ o. o ≡ finished (count - arity + 1) rest) (λ _. refl)
    (λ e. let less = leb-false arity count e in absurd (omega arith))

-- where a tree is finished in the end, each node finds enough
pub finished_enough : (count arity k : ℕ) (rest : List ℕ) → finished count (arity ∷ rest) ≡ Some k → (arity ≤ count) × (finished (count - arity + 1) rest ≡ Some k)
finished_enough count arity k rest =
    cond_both (nat_le arity count) (finished (count - arity + 1) rest) None (λ o. o ≡ Some k → (arity ≤ count) × (finished (count - arity + 1) rest ≡ Some k))
    (λ t e. (leb-true arity count t, e)) (λ _ e. absurd (cc))

-- what is finished between two parts of a list
pub finished_between : (count k : ℕ) (xs ys : List ℕ) → finished count (xs ++ ys) ≡ Some k → (c : ℕ) × (finished count xs ≡ Some c) × (finished c ys ≡ Some k)
finished_between count k [] ys e = (count, refl, e)
finished_between count k (x ∷ xs) ys e =
    let enough = finished_enough count x k (xs ++ ys) e in
    let more = finished_between (count - x + 1) k xs ys enough.1 in
    (more.0, finished_more count x xs enough.0 ∙ more.1, more.2)

-- ---- the trees

-- behind trees, nodes that leave so many trees
pub record Leaves {N : Type 0} (arity : N → ℕ) (before ts : List (Tree N)) (ns : List N) (k : ℕ) : Type 0 where
  pub left : List (Tree N)
  pub are : fold (grow arity) (before ++ ts) ns ≡ before ++ left
  pub count : length left ≡ k
  pub same : nodes_each (trees_of left) ≡ nodes_each (trees_of ts) ++ ns
  pub full : EachNodeOf (λ u _. HasArity arity u) 0 (trees_of left)

leaves : {N : Type 0} (arity : N → ℕ) (before ts : List (Tree N)) (ns : List N) (k : ℕ) → EachNodeOf (λ u _. HasArity arity u) 0 (trees_of ts) → finished (length ts) (map arity ns) ≡ Some k → Leaves arity before ts ns k
leaves {N} arity before ts [] k full e = record { left = ts; are = refl; count = cc; same = sym (append-nil (nodes_each (trees_of ts))); full = full }
leaves {N} arity before ts (n ∷ ns) k full e =
    let P : Tree N → ℕ → Type 0 = λ u _. HasArity arity u in
    let all : List (Tree N) → List N = λ xs. nodes_each (trees_of xs) in
    let enough = finished_enough (length ts) (arity n) k (map arity ns) e in
    let at : ℕ = length ts - arity n in
    let o = take at ts in
    let l = drop at ts in
    let whole : o ++ l ≡ ts = take-append-drop at ts in
    let kids : length l ≡ arity n = omega (arith, length-drop at ts, enough.0) in
    let parts = EachNodeOf-split P 0 o l (subst (λ (xs : List (Tree N)). EachNodeOf P 0 (trees_of xs)) (sym whole) full) in
    let root : HasArity arity (over n l) = ap length (list_of-trees_of l) ∙ kids in
    let next = o ++ over n l ∷ [] in
    let count : length next ≡ length ts - arity n + 1 = omega (arith, length-append o (over n l ∷ []), length-take at ts) in
    let stands : EachNodeOf P 0 (trees_of next) = EachNodeOf-append P 0 o (over n l ∷ []) parts.0 ((parts.1, root), tt) in
    let more = leaves arity before next ns k stands (ap (λ c. finished c (map arity ns)) count ∙ enough.1) in
    let step : grow arity (before ++ ts) n ≡ before ++ next =
    ap (λ xs. grow arity (before ++ xs) n) (sym whole) ∙ ap (λ xs. grow arity xs n) (sym (append_assoc before o l))
    ∙ grow-append arity (before ++ o) l n kids ∙ append_assoc before o (over n l ∷ []) in
    let same : all next ≡ all ts ++ n ∷ [] =
    nodes_each-append o (over n l ∷ []) ∙ ap (λ xs. all o ++ xs) (append-nil (all l ++ n ∷ []))
    ∙ sym (append_assoc (all o) (all l) (n ∷ [])) ∙ ap (λ xs. xs ++ n ∷ []) (sym (nodes_each-append o l) ∙ ap all whole) in
    record {
      left = more.left;
      are = ap (λ xs. fold (grow arity) xs ns) step ∙ more.are;
      count = more.count;
      same = more.same ∙ ap (λ xs. xs ++ ns) same ∙ append_assoc (all ts) (n ∷ []) ns;
      full = more.full;
    }

-- how many trees there are behind nodes of which so many trees are finished
pub count_behind : {N : Type 0} (arity : N → ℕ) (old ns : List N) (k : ℕ) → finished 0 (map arity ns) ≡ Some k → k ≤ length (trees arity (old ++ ns))
count_behind arity old ns k e =
    let behind = leaves arity (trees arity old) [] ns k tt e in
    let are : trees arity (old ++ ns) ≡ trees arity old ++ behind.left =
    trees-append arity old ns ∙ ap (λ xs. fold (grow arity) xs ns) (sym (append-nil (trees arity old))) ∙ behind.are in
    omega (arith, ap length are, length-append (trees arity old) behind.left, behind.count)

-- the tree of nodes in post-order, which is the last one behind others
pub record TreeOf {N : Type 0} (arity : N → ℕ) (old ns : List N) : Type 0 where
  pub tree : Tree N
  pub last : trees arity (old ++ ns) ≡ trees arity old ++ tree ∷ []
  pub same : nodes tree ≡ ns
  pub full : EachNode (λ u _. HasArity arity u) 0 tree

one_of : {N : Type 0} (arity : N → ℕ) (old ns : List N) (left : List (Tree N)) → trees arity (old ++ ns) ≡ trees arity old ++ left → length left ≡ 1 → nodes_each (trees_of left) ≡ ns → EachNodeOf (λ u _. HasArity arity u) 0 (trees_of left) → TreeOf arity old ns
one_of arity old ns [] are count same full = absurd (omega arith)
one_of arity old ns (t ∷ []) are count same full = record { tree = t; last = are; same = sym (append-nil (nodes t)) ∙ same; full = full.0 }
one_of arity old ns (t ∷ u ∷ left) are count same full = absurd (omega arith)

pub tree_of : {N : Type 0} (arity : N → ℕ) (old ns : List N) → IsPostOrder (map arity ns) → TreeOf arity old ns
tree_of arity old ns e =
    let behind = leaves arity (trees arity old) [] ns 1 tt e in
    let are : trees arity (old ++ ns) ≡ trees arity old ++ behind.left =
    trees-append arity old ns ∙ ap (λ xs. fold (grow arity) xs ns) (sym (append-nil (trees arity old))) ∙ behind.are in
    one_of arity old ns behind.left are behind.count behind.same behind.full

-- ---- the nodes of a tree are in post-order

mutual
  nodes_finish : {N : Type 0} (arity : N → ℕ) (first : ℕ) (t : Tree N) (count : ℕ) (rest : List ℕ) → EachNode (λ u _. HasArity arity u) first t
      → finished count (map arity (nodes t) ++ rest) ≡ finished (count + 1) rest
  nodes_finish arity first (branch n ks) count rest full =
      ap (λ xs. finished count (xs ++ rest)) (map-append arity (nodes_each ks) (n ∷ [])) ∙ ap (finished count) (append_assoc (map arity (nodes_each ks)) (arity n ∷ []) rest)
      ∙ each_finish arity first ks count (arity n ∷ rest) full.0 ∙ finished_more (count + length (list_of ks)) (arity n) rest (omega (arith, full.1))
      ∙ ap (λ c. finished c rest) (omega (arith, full.1))

  each_finish : {N : Type 0} (arity : N → ℕ) (first : ℕ) (ks : Trees N) (count : ℕ) (rest : List ℕ) → EachNodeOf (λ u _. HasArity arity u) first ks
      → finished count (map arity (nodes_each ks) ++ rest) ≡ finished (count + length (list_of ks)) rest
  each_finish arity first no_trees count rest full = ap (λ c. finished c rest) (omega arith)
  each_finish arity first (tree_and t ks) count rest full =
      ap (λ xs. finished count (xs ++ rest)) (map-append arity (nodes t) (nodes_each ks)) ∙ ap (finished count) (append_assoc (map arity (nodes t)) (map arity (nodes_each ks)) rest)
      ∙ nodes_finish arity first t count (map arity (nodes_each ks) ++ rest) full.0 ∙ each_finish arity (first + size t) ks (count + 1) rest full.1
      ∙ ap (λ c. finished c rest) (omega arith)

pub order_of_nodes : {N : Type 0} (arity : N → ℕ) (first : ℕ) (t : Tree N) → EachNode (λ u _. HasArity arity u) first t → IsPostOrder (map arity (nodes t))
order_of_nodes arity first t full = ap (finished 0) (sym (append-nil (map arity (nodes t)))) ∙ nodes_finish arity first t 0 [] full
