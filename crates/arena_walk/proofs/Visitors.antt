-- Lemmas for visitors, for callers of `walk`, and for code that fills an arena.
--
-- | You want | Use |
-- |---|---|
-- | what `walk` requires, where every node may be visited | each_node |
-- | the same, from what holds of the tree at each number up to the root's | each_by_number, has_own, each_size |
-- | the same, from what holds of each node of the arena | each_root |
-- | the same, from a fact that every tree hands down to its children | each_handed_down |
-- | the same, from what holds of each node of the tree | each_of_nodes |
-- | two such facts at once; another that follows from one | EachNode-with, EachNode-map, EachNode-root |
-- | in `node`, what the outs are, where each is a function of its tree | outs_are, outs_fold |
-- | in `node`, how many children there are, or one of them | length_outs, out_at |
-- | what `push` makes of trees that are known | grow-append, last_trees-append |
-- | how many finished trees there are | trees-nil, length-grow, length-trees-le |
-- | which tree the node at a number has; which nodes a tree has, and that they are nodes of the arena | tree_at_node, nodes_to, in_arena |
-- | a walk of your own that keeps a stack of outs | IsAlong: along_start, next_node, along_enough, along_kids, along_next, along_end; along_at and along_with for equal lists |
-- | a tree from its nodes alone | trees-nodes, same_from_nodes |
use Rattle.std.proofs.Common.{◌≡◌, ℕ, ◌+◌, ◌-◌, ◌<◌, ◌≤◌, List, [], ◌∷◌, ◌++◌, length, map, take, drop, slice_get, Contains, Some, zero, suc, refl, sym, ap, ◌∙◌, subst, sum, length-append, length-take, arith}
use Rattle.std.specs.List.{AllZip}
use Rattle.std.proofs.lemmas.List.{take-append-drop}
use Rattle.std.proofs.lemmas.List.Elements.{Contains-append_left, Contains-append_right}
use Rattle.std.proofs.lemmas.List.Sums.{sum_by-cons}
use Rattle.arena_walk.specs.Tree.{Tree, Trees, branch, no_trees, tree_and, trees_of, list_of, over, root_of, size, size_each, nodes, nodes_each, EachNode, EachNodeOf, fold_tree, fold_each}
use Rattle.arena_walk.specs.Forest.{last_trees, grow, trees, tree_at, first_number, child_number, HasArity}
use Rattle.arena_walk.proofs.ForestLemmas.{others, grow-is, size-trees, tree_at_is}
use Rattle.arena_walk.proofs.WalkLemmas.{grows}
pub use Rattle.arena_walk.proofs.TreeLemmas.{list_of-trees_of, trees_of-list_of, size_above, size_each-append, EachNode-map, EachNode-with, EachNode-root}
pub use Rattle.arena_walk.proofs.ForestLemmas.{trees-nil, grow-append, last_trees-append, length-last_trees, trees-push, tree_at-append, tree_at_node, tree_at_within, nodes_to, has_own}
pub use Rattle.arena_walk.proofs.SlotLemmas.{size_within}
pub use Rattle.arena_walk.proofs.WalkLemmas.{length_outs, numbers-range, IsAlong, along_start, along_enough, along_kids, along_next, along_end, along_at, along_with, next_node}

mutual
  -- what holds of every tree and number holds of each node
  pub each_node : {N : Type 0} (P : Tree N → ℕ → Type 0) → ((u : Tree N) (k : ℕ) → P u k) → (first : ℕ) (t : Tree N) → EachNode P first t
  each_node P all first (branch n ks) = (each_node_of P all first ks, all _ _)

  each_node_of : {N : Type 0} (P : Tree N → ℕ → Type 0) → ((u : Tree N) (k : ℕ) → P u k) → (first : ℕ) (ks : Trees N) → EachNodeOf P first ks
  each_node_of P all first no_trees = tt
  each_node_of P all first (tree_and t ks) = (each_node P all first t, each_node_of P all (first + size t) ks)

mutual
  -- the numbers of a tree's nodes
  pub each_between : {N : Type 0} (first : ℕ) (t : Tree N) → EachNode (λ u k. (first ≤ k) × (k < first + size t)) first t
  each_between first (branch n ks) =
      (EachNodeOf-within first (first + (size_each ks + 1)) first ks (omega arith) (omega arith), (omega arith, omega arith))

  EachNodeOf-within : {N : Type 0} (low high first : ℕ) (ks : Trees N) → low ≤ first → first + size_each ks ≤ high → EachNodeOf (λ (u : Tree N) k. (low ≤ k) × (k < high)) first ks
  EachNodeOf-within low high first no_trees l h = tt
  EachNodeOf-within {N} low high first (tree_and t ks) l h = (
    EachNode-map (λ (u : Tree N) k. (first ≤ k) × (k < first + size t)) (λ u k. (low ≤ k) × (k < high)) (λ u k b. (omega arith, omega arith)) first t (each_between first t),
    EachNodeOf-within low high (first + size t) ks (omega arith) (omega arith),
  )

-- what holds of the tree at each number up to the root's holds of each node of the root's tree
pub each_by_number : {N : Type 0} (P : Tree N → ℕ → Type 0) (arity : N → ℕ) (ns : List N) (root : ℕ) (t : Tree N) → ((u : Tree N) (k : ℕ) → k ≤ root → tree_at arity ns k ≡ Some u → P u k) → tree_at arity ns root ≡ Some t → EachNode P (first_number root t) t
each_by_number {N} P arity ns root t all is =
    let within = size_within arity ns root t is in
    EachNode-with (λ (u : Tree N) k. (first_number root t ≤ k) × (k < first_number root t + size t)) (λ u k. tree_at arity ns k ≡ Some u) P
    (λ u k b e. all u k (omega (arith, b.1)) e) (first_number root t) t (each_between (first_number root t) t) (has_own arity ns root t is)

-- what holds of each node of the arena holds of each node of a tree in it
pub each_root : {N : Type 0} (Q : N → Type 0) (arity : N → ℕ) (ns : List N) (root : ℕ) (t : Tree N) → ((k : ℕ) (n : N) → slice_get ns k ≡ Some n → Q n) → tree_at arity ns root ≡ Some t → EachNode (λ u _. Q (root_of u)) (first_number root t) t
each_root {N} Q arity ns root t all is =
    each_by_number (λ u _. Q (root_of u)) arity ns root t
    (λ u k _ e. let node = tree_at_is arity ns k u e in subst (λ (n : N). Q n) (sym (ap root_of node.2)) (all k node.0 node.1)) is

-- what holds of each node in the list of a tree's nodes
mutual
  pub each_of_nodes : {N : Type 0} (Q : N → Type 0) (first : ℕ) (t : Tree N) → ((n : N) → Contains (nodes t) n → Q n) → EachNode (λ u _. Q (root_of u)) first t
  each_of_nodes Q first (branch n ks) all = (
    each_of_nodes_each Q first ks (λ m has. all m (Contains-append_left (nodes_each ks) (n ∷ []) m has)),
    all n (Contains-append_right (nodes_each ks) (n ∷ []) n (0, omega arith, refl)),
  )

  each_of_nodes_each : {N : Type 0} (Q : N → Type 0) (first : ℕ) (ks : Trees N) → ((n : N) → Contains (nodes_each ks) n → Q n) → EachNodeOf (λ u _. Q (root_of u)) first ks
  each_of_nodes_each Q first no_trees all = tt
  each_of_nodes_each Q first (tree_and t ks) all = (
    each_of_nodes Q first t (λ m has. all m (Contains-append_left (nodes t) (nodes_each ks) m has)),
    each_of_nodes_each Q (first + size t) ks (λ m has. all m (Contains-append_right (nodes t) (nodes_each ks) m has)),
  )

-- a node of a tree is a node of the arena that the tree stands in
pub in_arena : {N : Type 0} (arity : N → ℕ) (ns : List N) (root : ℕ) (t : Tree N) (n : N) → tree_at arity ns root ≡ Some t → Contains (nodes t) n → Contains ns n
in_arena {N} arity ns root t n is has =
    let P : List N → Type 0 = λ ms. Contains ms n in
    let front = take (root + 1) ns in
    let before = take (first_number root t) front in
    let whole : before ++ nodes t ≡ front = ap (λ ms. before ++ ms) (sym (nodes_to arity ns root t is)) ∙ take-append-drop (first_number root t) front in
    subst P (take-append-drop (root + 1) ns) (Contains-append_left front (drop (root + 1) ns) n (subst P whole (Contains-append_right before (nodes t) n has)))

-- a tree has no more nodes than there are numbers up to its root's
pub each_size : {N : Type 0} (arity : N → ℕ) (ns : List N) (root : ℕ) (t : Tree N) → tree_at arity ns root ≡ Some t → EachNode (λ u k. size u ≤ k + 1) (first_number root t) t
each_size arity ns root t is =
    each_by_number (λ u k. size u ≤ k + 1) arity ns root t (λ u k _ e. size_within arity ns k u e) is

add-suc-one : (k : ℕ) → suc k + 1 ≡ suc (k + 1)
add-suc-one k = omega arith

abbrev HandsDown : {N : Type 0} → (Tree N → ℕ → Type 0) → Type 0
HandsDown {N} P = (n : N) (kids : List (Tree N)) (at k : ℕ) (u : Tree N) → P (over n kids) at → slice_get kids k ≡ Some u → P u (child_number at kids k)

mutual
  handed_down : {N : Type 0} (P : Tree N → ℕ → Type 0) → HandsDown P → (first at : ℕ) (t : Tree N) → first + size t ≡ at + 1 → P t at → EachNode P first t
  handed_down {N} P down first at (branch n ks) e here =
      let root : at ≡ first + size_each ks = omega arith in
      let whole : branch n ks ≡ over n (list_of ks) = ap (branch n) (sym (trees_of-list_of ks)) in (
        handed_down_each P down first at ks root (λ k u is. down n (list_of ks) at k u (subst (λ (v : Tree N). P v at) whole here) is),
        subst (λ (k : ℕ). P (branch n ks) k) root here,
      )

  handed_down_each : {N : Type 0} (P : Tree N → ℕ → Type 0) → HandsDown P → (first at : ℕ) (ks : Trees N) → at ≡ first + size_each ks → ((k : ℕ) (u : Tree N) → slice_get (list_of ks) k ≡ Some u → P u (child_number at (list_of ks) k)) → EachNodeOf P first ks
  handed_down_each P down first at no_trees e each = tt
  handed_down_each {N} P down first at (tree_and t ks) e each =
      let one = each 0 t refl in
      let behind = ap size_each (trees_of-list_of ks) in
      let some = size_above t in
      let number : child_number at (t ∷ list_of ks) 0 ≡ first + size t - 1 = omega (arith, behind) in (
        handed_down P down first (first + size t - 1) t (omega arith) (subst (λ (k : ℕ). P t k) number one),
        handed_down_each P down (first + size t) at ks (omega arith) (λ k u is. subst (λ (i : ℕ). P u (at - size_each (trees_of (drop i (t ∷ list_of ks))) - 1)) (add-suc-one k) (each (suc k) u is)),
      )

-- what holds of the root's tree, and of each child where it holds of the parent
pub each_handed_down : {N : Type 0} (P : Tree N → ℕ → Type 0) (arity : N → ℕ) (ns : List N) (root : ℕ) (t : Tree N) → ((n : N) (kids : List (Tree N)) (at k : ℕ) (u : Tree N) → P (over n kids) at → slice_get kids k ≡ Some u → P u (child_number at kids k)) → tree_at arity ns root ≡ Some t → P t root → EachNode P (first_number root t) t
each_handed_down {N} P arity ns root t down is here =
    let within = size_within arity ns root t is in
    handed_down P down (first_number root t) root t (omega arith) here

-- the out of one child, and the child
pub out_at : {A B : Type 0} (R : A → B → Type 0) (kids : List A) (outs : List B) (k : ℕ) (out : B) → AllZip R kids outs → slice_get outs k ≡ Some out → (kid : A) × (slice_get kids k ≡ Some kid) × R kid out
out_at R [] [] k out h e = absurd (cc)
out_at R [] (y ∷ ys) k out h e = absurd h
out_at R (x ∷ xs) [] k out h e = absurd h
out_at R (x ∷ xs) (y ∷ ys) zero out h e = let same : y ≡ out = cc in (x, refl, subst (λ z. R x z) same h.0)
out_at R (x ∷ xs) (y ∷ ys) (suc k) out h e = out_at R xs ys k out h.1 e

-- the outs, where each is a function of its tree
pub outs_are : {A B : Type 0} (f : A → B) (kids : List A) (outs : List B) → AllZip (λ kid out. out ≡ f kid) kids outs → outs ≡ map f kids
outs_are f [] [] h = refl
outs_are f [] (y ∷ ys) h = absurd h
outs_are f (x ∷ xs) [] h = absurd h
outs_are f (x ∷ xs) (y ∷ ys) h = ap (λ z. z ∷ ys) h.0 ∙ ap (λ zs. f x ∷ zs) (outs_are f xs ys h.1)

pub fold_each-trees_of : {N A : Type 0} (step : N → List A → A) (kids : List (Tree N)) → fold_each step (trees_of kids) ≡ map (fold_tree step) kids
fold_each-trees_of step [] = refl
fold_each-trees_of step (t ∷ ts) = ap (λ xs. fold_tree step t ∷ xs) (fold_each-trees_of step ts)

-- what a visitor computes for a node from its children's outs is what the fold gives for its tree
pub outs_fold : {N A : Type 0} (step : N → List A → A) (n : N) (kids : List (Tree N)) (outs : List A) → AllZip (λ kid out. out ≡ fold_tree step kid) kids outs → step n outs ≡ fold_tree step (over n kids)
outs_fold step n kids outs h =
    ap (step n) (outs_are (fold_tree step) kids outs h ∙ sym (fold_each-trees_of step kids))

-- how many trees there are after one node more
pub length-grow : {N : Type 0} (arity : N → ℕ) (ts : List (Tree N)) (n : N) → length (grow arity ts n) ≡ length ts - arity n + 1
length-grow arity ts n =
    ap length (grow-is arity ts n) ∙ omega (arith, length-append (others arity ts n) (over n (last_trees arity ts n) ∷ []), length-take (length ts - arity n) ts)

length-size_each : {N : Type 0} (ts : List (Tree N)) → length ts ≤ size_each (trees_of ts)
length-size_each [] = omega arith
length-size_each (t ∷ ts) = omega (arith, size_above t, length-size_each ts)

-- no more trees than nodes
pub length-trees-le : {N : Type 0} (arity : N → ℕ) (ns : List N) → length (trees arity ns) ≤ length ns
length-trees-le arity ns = omega (arith, size-trees arity ns, length-size_each (trees arity ns))

-- the nodes of one tree make that tree
pub trees-nodes : {N : Type 0} (arity : N → ℕ) (first : ℕ) (t : Tree N) → EachNode (λ u _. HasArity arity u) first t → trees arity (nodes t) ≡ t ∷ []
unfolding trees
trees-nodes arity first t full = grows arity [] first t full

-- so a list of nodes has one tree
pub same_from_nodes : {N : Type 0} (arity : N → ℕ) (first : ℕ) (t u : Tree N) → EachNode (λ v _. HasArity arity v) first t → EachNode (λ v _. HasArity arity v) first u → nodes t ≡ nodes u → t ≡ u
same_from_nodes {N} arity first t u full whole e =
    let same : t ∷ [] ≡ u ∷ [] = sym (trees-nodes arity first t full) ∙ ap (trees arity) e ∙ trees-nodes arity first u whole in cc

-- the sizes of a node's children, where each out is one
pub sum_sizes : {N : Type 0} (kids : List (Tree N)) (outs : List ℕ) → AllZip (λ kid out. out ≡ size kid) kids outs → sum outs ≡ size_each (trees_of kids)
sum_sizes [] [] h = refl
sum_sizes [] (y ∷ ys) h = absurd h
sum_sizes (x ∷ xs) [] h = absurd h
sum_sizes (x ∷ xs) (y ∷ ys) h = omega (arith, sum_by-cons (λ (k : ℕ). k) y ys, h.0, sum_sizes xs ys h.1)
