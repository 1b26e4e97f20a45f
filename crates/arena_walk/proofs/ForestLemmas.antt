-- The finished trees of a list of nodes, and the tree at a number.
use Rattle.std.proofs.Common.{◌≡◌, ℕ, ◌+◌, ◌-◌, ◌<◌, ◌≤◌, List, [], ◌∷◌, ◌++◌, length, take, drop, fold, slice_get, Option, Some, None, zero, suc, refl, sym, ap, ◌∙◌, subst, append_assoc, length-append, length-take, length-drop, arith}
use Rattle.std.specs.Option.{option_map}
use Rattle.std.proofs.lemmas.List.{append-nil, take-append-drop, take-append-le, take_at, take_more, drop_at}
use Rattle.std.proofs.lemmas.List.Sums.{fold_push, fold-append}
use Rattle.std.proofs.lemmas.Option.{slice_get_within, get_or_from_slice_get}
use Rattle.arena_walk.specs.Tree.{Tree, trees_of, over, size, size_each, nodes, nodes_each, EachNode, EachNodeOf}
use Rattle.arena_walk.specs.Forest.{last_trees, grow, trees, tree_at, first_number}
use Rattle.arena_walk.proofs.TreeLemmas.{size_each-append, nodes_each-append, length-nodes_each, EachNodeOf-append, EachNodeOf-split, EachNodeOf-map, EachNode-from, EachNode-map}

-- the trees that a node leaves, and those that it takes
abbrev pub others : {N : Type 0} → (N → ℕ) → List (Tree N) → N → List (Tree N)
others arity ts n = take (length ts - arity n) ts

pub others-append-last : {N : Type 0} (arity : N → ℕ) (ts : List (Tree N)) (n : N) → others arity ts n ++ last_trees arity ts n ≡ ts
unfolding last_trees
others-append-last arity ts n = take-append-drop (length ts - arity n) ts

pub grow-is : {N : Type 0} (arity : N → ℕ) (ts : List (Tree N)) (n : N) → grow arity ts n ≡ others arity ts n ++ over n (last_trees arity ts n) ∷ []
unfolding grow
grow-is arity ts n = refl

pub trees-nil : {N : Type 0} (arity : N → ℕ) → trees arity [] ≡ []
unfolding trees
trees-nil arity = refl

pub trees-append : {N : Type 0} (arity : N → ℕ) (ns ms : List N) → trees arity (ns ++ ms) ≡ fold (grow arity) (trees arity ns) ms
unfolding trees
trees-append arity ns ms = fold-append (grow arity) [] ns ms

pub trees-push : {N : Type 0} (arity : N → ℕ) (ns : List N) (n : N) → trees arity (ns ++ n ∷ []) ≡ grow arity (trees arity ns) n
unfolding trees
trees-push arity ns n = fold_push (grow arity) [] ns n

-- a node's children, as many as its arity where there are so many trees
pub length-last_trees : {N : Type 0} (arity : N → ℕ) (ts : List (Tree N)) (n : N) → arity n ≤ length ts → length (last_trees arity ts n) ≡ arity n
unfolding last_trees
length-last_trees arity ts n h = omega (arith, length-drop (length ts - arity n) ts)

pub last_trees-append : {N : Type 0} (arity : N → ℕ) (before kids : List (Tree N)) (n : N) → length kids ≡ arity n → last_trees arity (before ++ kids) n ≡ kids
unfolding last_trees
last_trees-append arity before kids n e = drop_at before kids (length (before ++ kids) - arity n) (omega (arith, length-append before kids))

pub grow-append : {N : Type 0} (arity : N → ℕ) (before kids : List (Tree N)) (n : N) → length kids ≡ arity n → grow arity (before ++ kids) n ≡ before ++ over n kids ∷ []
grow-append arity before kids n e =
    let kept : others arity (before ++ kids) n ≡ before =
    take_at before kids (length (before ++ kids) - arity n) (omega (arith, length-append before kids)) in
    grow-is arity (before ++ kids) n ∙ ap (λ xs. xs ++ over n (last_trees arity (before ++ kids) n) ∷ []) kept
    ∙ ap (λ ks. before ++ over n ks ∷ []) (last_trees-append arity before kids n e)

-- the nodes of all trees, joined, are the list
nodes-grow : {N : Type 0} (arity : N → ℕ) (ts : List (Tree N)) (n : N) → nodes_each (trees_of (grow arity ts n)) ≡ nodes_each (trees_of ts) ++ n ∷ []
nodes-grow {N} arity ts n =
    let o = others arity ts n in
    let l = last_trees arity ts n in
    let all : List (Tree N) → List N = λ xs. nodes_each (trees_of xs) in
    ap all (grow-is arity ts n) ∙ nodes_each-append o (over n l ∷ []) ∙ ap (λ xs. all o ++ xs) (append-nil (all l ++ n ∷ []))
    ∙ sym (append_assoc (all o) (all l) (n ∷ []))
    ∙ ap (λ xs. xs ++ n ∷ []) (sym (nodes_each-append o l) ∙ ap all (others-append-last arity ts n))

nodes-fold : {N : Type 0} (arity : N → ℕ) (ts : List (Tree N)) (ns : List N) → nodes_each (trees_of (fold (grow arity) ts ns)) ≡ nodes_each (trees_of ts) ++ ns
nodes-fold arity ts [] = sym (append-nil (nodes_each (trees_of ts)))
nodes-fold arity ts (n ∷ ns) =
    nodes-fold arity (grow arity ts n) ns ∙ ap (λ xs. xs ++ ns) (nodes-grow arity ts n) ∙ append_assoc (nodes_each (trees_of ts)) (n ∷ []) ns

pub nodes-trees : {N : Type 0} (arity : N → ℕ) (ns : List N) → nodes_each (trees_of (trees arity ns)) ≡ ns
unfolding trees
nodes-trees arity ns = nodes-fold arity [] ns

pub size-trees : {N : Type 0} (arity : N → ℕ) (ns : List N) → size_each (trees_of (trees arity ns)) ≡ length ns
size-trees arity ns = sym (length-nodes_each (trees_of (trees arity ns))) ∙ ap length (nodes-trees arity ns)

pub slice_get-append : {X : Type 0} (xs ys : List X) (i : ℕ) → i < length xs → slice_get (xs ++ ys) i ≡ slice_get xs i
slice_get-append [] ys i h = absurd (omega arith)
slice_get-append (x ∷ xs) ys zero h = refl
slice_get-append (x ∷ xs) ys (suc i) h = slice_get-append xs ys i (omega arith)

pub slice_get-push : {X : Type 0} (xs : List X) (y : X) → slice_get (xs ++ y ∷ []) (length xs) ≡ Some y
slice_get-push [] y = refl
slice_get-push (x ∷ xs) y = slice_get-push xs y

-- the tree at a number stays where nodes are added
pub tree_at-append : {N : Type 0} (arity : N → ℕ) (ns ms : List N) (at : ℕ) → at < length ns → tree_at arity (ns ++ ms) at ≡ tree_at arity ns at
unfolding tree_at
tree_at-append arity ns ms at h =
    ap (λ xs. option_map (λ n. over n (last_trees arity (trees arity xs) n)) (slice_get (ns ++ ms) at)) (take-append-le at ns ms (omega arith))
    ∙ ap (option_map (λ n. over n (last_trees arity (trees arity (take at ns)) n))) (slice_get-append ns ms at h)

-- the tree at a number is over the node there
pub tree_at_node : {N : Type 0} (arity : N → ℕ) (ns : List N) (at : ℕ) (n : N) → slice_get ns at ≡ Some n → tree_at arity ns at ≡ Some (over n (last_trees arity (trees arity (take at ns)) n))
unfolding tree_at
tree_at_node arity ns at n e = ap (option_map (λ m. over m (last_trees arity (trees arity (take at ns)) m))) e

some_from_map : {X Y : Type 0} (f : X → Y) (o : Option X) (y : Y) → option_map f o ≡ Some y → (x : X) × (o ≡ Some x) × (y ≡ f x)
some_from_map f None y e = absurd (cc)
some_from_map f (Some x) y e = (x, refl, cc)

pub tree_at_is : {N : Type 0} (arity : N → ℕ) (ns : List N) (at : ℕ) (t : Tree N) → tree_at arity ns at ≡ Some t → (n : N) × (slice_get ns at ≡ Some n) × (t ≡ over n (last_trees arity (trees arity (take at ns)) n))
unfolding tree_at
tree_at_is arity ns at t e = some_from_map (λ n. over n (last_trees arity (trees arity (take at ns)) n)) (slice_get ns at) t e

pub tree_at_within : {N : Type 0} (arity : N → ℕ) (ns : List N) (at : ℕ) (t : Tree N) → tree_at arity ns at ≡ Some t → at < length ns
tree_at_within arity ns at t e = let is = tree_at_is arity ns at t e in slice_get_within ns at is.0 is.1

pub tree_at-push : {N : Type 0} (arity : N → ℕ) (ns : List N) (n : N) → tree_at arity (ns ++ n ∷ []) (length ns) ≡ Some (over n (last_trees arity (trees arity ns) n))
tree_at-push arity ns n =
    tree_at_node arity (ns ++ n ∷ []) (length ns) n (slice_get-push ns n)
    ∙ ap (λ xs. Some (over n (last_trees arity (trees arity xs) n))) (take_at ns (n ∷ []) (length ns) refl)

-- each node of the finished trees has its own tree at its number
abbrev HaveOwn : {N : Type 0} → (N → ℕ) → List N → Type 0
HaveOwn arity ns = EachNodeOf (λ u k. tree_at arity ns k ≡ Some u) 0 (trees_of (trees arity ns))

HaveOwn-push : {N : Type 0} (arity : N → ℕ) (ns : List N) (n : N) → HaveOwn arity ns → HaveOwn arity (ns ++ n ∷ [])
HaveOwn-push {N} arity ns n h =
    let ts = trees arity ns in
    let o = others arity ts n in
    let l = last_trees arity ts n in
    let P : Tree N → ℕ → Type 0 = λ u k. tree_at arity ns k ≡ Some u in
    let Q : Tree N → ℕ → Type 0 = λ u k. tree_at arity (ns ++ n ∷ []) k ≡ Some u in
    let stays : (u : Tree N) (k : ℕ) → P u k → Q u k = λ u k e. tree_at-append arity ns (n ∷ []) k (tree_at_within arity ns k u e) ∙ e in
    let parts = EachNodeOf-split P 0 o l (subst (λ (xs : List (Tree N)). EachNodeOf P 0 (trees_of xs)) (sym (others-append-last arity ts n)) h) in
    let sizes : size_each (trees_of o) + size_each (trees_of l) ≡ length ns =
    sym (size_each-append o l) ∙ ap (λ xs. size_each (trees_of xs)) (others-append-last arity ts n) ∙ size-trees arity ns in
    let root : Q (over n l) (0 + size_each (trees_of o) + size_each (trees_of l)) =
    subst (λ (k : ℕ). Q (over n l) k) (omega arith) (tree_at-push arity ns n) in
    subst (λ (xs : List (Tree N)). EachNodeOf Q 0 (trees_of xs)) (sym (trees-push arity ns n ∙ grow-is arity ts n))
    (EachNodeOf-append Q 0 o (over n l ∷ []) (EachNodeOf-map P Q stays 0 (trees_of o) parts.0) ((EachNodeOf-map P Q stays (0 + size_each (trees_of o)) (trees_of l) parts.1, root), tt))

HaveOwn-append : {N : Type 0} (arity : N → ℕ) (ns ms : List N) → HaveOwn arity ns → HaveOwn arity (ns ++ ms)
HaveOwn-append {N} arity ns [] h = subst (λ (xs : List N). HaveOwn arity xs) (sym (append-nil ns)) h
HaveOwn-append {N} arity ns (m ∷ ms) h =
    subst (λ (xs : List N). HaveOwn arity xs) (append_assoc ns (m ∷ []) ms) (HaveOwn-append arity (ns ++ m ∷ []) ms (HaveOwn-push arity ns m h))

pub have_own : {N : Type 0} (arity : N → ℕ) (ns : List N) → HaveOwn arity ns
have_own {N} arity ns = HaveOwn-append arity [] ns (subst (λ (xs : List (Tree N)). EachNodeOf (λ u k. tree_at arity [] k ≡ Some u) 0 (trees_of xs)) (sym (trees-nil arity)) tt)

-- the trees of the nodes up to a number end in the tree there
pub trees_to : {N : Type 0} (arity : N → ℕ) (ns : List N) (at : ℕ) (t : Tree N) → tree_at arity ns at ≡ Some t → (before : List (Tree N)) × (trees arity (take (at + 1) ns) ≡ before ++ t ∷ []) × (size_each (trees_of before) + size t ≡ at + 1)
trees_to {N} arity ns at t e =
    let is = tree_at_is arity ns at t e in
    let n = is.0 in
    let inside : at < length ns = slice_get_within ns at n is.1 in
    let ts = trees arity (take at ns) in
    let o = others arity ts n in
    let front : take (at + 1) ns ≡ take at ns ++ n ∷ [] =
    take_more ns at n inside ∙ ap (λ x. take at ns ++ x ∷ []) (get_or_from_slice_get ns at n n is.1) in
    let ends : trees arity (take (at + 1) ns) ≡ o ++ t ∷ [] =
    ap (trees arity) front ∙ trees-push arity (take at ns) n ∙ grow-is arity ts n ∙ ap (λ u. o ++ u ∷ []) (sym is.2) in
    let sizes : size_each (trees_of o) + (size t + 0) ≡ length (take (at + 1) ns) =
    sym (size_each-append o (t ∷ [])) ∙ ap (λ xs. size_each (trees_of xs)) (sym ends) ∙ size-trees arity (take (at + 1) ns) in
    (o, ends, omega (arith, length-take (at + 1) ns))

pub has_own : {N : Type 0} (arity : N → ℕ) (ns : List N) (at : ℕ) (t : Tree N) → tree_at arity ns at ≡ Some t → EachNode (λ u k. tree_at arity ns k ≡ Some u) (first_number at t) t
has_own {N} arity ns at t e =
    let to = trees_to arity ns at t e in
    let front = take (at + 1) ns in
    let P : Tree N → ℕ → Type 0 = λ u k. tree_at arity front k ≡ Some u in
    let Q : Tree N → ℕ → Type 0 = λ u k. tree_at arity ns k ≡ Some u in
    let stays : (u : Tree N) (k : ℕ) → P u k → Q u k = λ u k h.
    ap (λ xs. tree_at arity xs k) (sym (take-append-drop (at + 1) ns)) ∙ tree_at-append arity front (drop (at + 1) ns) k (tree_at_within arity front k u h) ∙ h in
    let parts = EachNodeOf-split P 0 to.0 (t ∷ []) (subst (λ (xs : List (Tree N)). EachNodeOf P 0 (trees_of xs)) to.1 (have_own arity front)) in
    let from : 0 + size_each (trees_of to.0) ≡ first_number at t = omega (arith, to.2) in
    EachNode-from Q (0 + size_each (trees_of to.0)) (first_number at t) t from (EachNode-map P Q stays (0 + size_each (trees_of to.0)) t parts.1.0)

-- the nodes of the tree at a number stand up to that number
pub nodes_to : {N : Type 0} (arity : N → ℕ) (ns : List N) (at : ℕ) (t : Tree N) → tree_at arity ns at ≡ Some t → drop (first_number at t) (take (at + 1) ns) ≡ nodes t
nodes_to {N} arity ns at t e =
    let to = trees_to arity ns at t e in
    let all : List (Tree N) → List N = λ xs. nodes_each (trees_of xs) in
    let front : take (at + 1) ns ≡ all to.0 ++ nodes t =
    sym (nodes-trees arity (take (at + 1) ns)) ∙ ap all to.1 ∙ nodes_each-append to.0 (t ∷ []) ∙ ap (λ xs. all to.0 ++ xs) (append-nil (nodes t)) in
    ap (drop (first_number at t)) front ∙ drop_at (all to.0) (nodes t) (first_number at t) (omega (arith, to.2, length-nodes_each (trees_of to.0)))
