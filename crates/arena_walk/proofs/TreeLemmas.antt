-- Trees and lists of trees: sizes, nodes, numbers, and what holds of each node.
use Rattle.std.proofs.Common.{◌≡◌, ℕ, ◌+◌, ◌-◌, ◌<◌, ◌≤◌, List, [], ◌∷◌, ◌++◌, length, take, drop, slice_get, Some, zero, suc, refl, sym, ap, ◌∙◌, subst, append_assoc, length-append, arith}
use Rattle.std.proofs.lemmas.List.{take-append-drop}
use Rattle.arena_walk.specs.Tree.{Tree, Trees, branch, no_trees, tree_and, trees_of, list_of, size, size_each, nodes, nodes_each, EachNode, EachNodeOf}

pub list_of-trees_of : {N : Type 0} (ts : List (Tree N)) → list_of (trees_of ts) ≡ ts
list_of-trees_of [] = refl
list_of-trees_of (t ∷ ts) = ap (λ xs. t ∷ xs) (list_of-trees_of ts)

pub trees_of-list_of : {N : Type 0} (ks : Trees N) → trees_of (list_of ks) ≡ ks
trees_of-list_of no_trees = refl
trees_of-list_of (tree_and t ks) = ap (λ xs. tree_and t xs) (trees_of-list_of ks)

pub size_each-append : {N : Type 0} (xs ys : List (Tree N)) → size_each (trees_of (xs ++ ys)) ≡ size_each (trees_of xs) + size_each (trees_of ys)
size_each-append [] ys = omega arith
size_each-append (x ∷ xs) ys = omega (arith, size_each-append xs ys)

pub size_above : {N : Type 0} (t : Tree N) → 0 < size t
size_above (branch n ks) = omega arith

mutual
  pub length-nodes : {N : Type 0} (t : Tree N) → length (nodes t) ≡ size t
  length-nodes (branch n ks) = omega (arith, length-append (nodes_each ks) (n ∷ []), length-nodes_each ks)

  pub length-nodes_each : {N : Type 0} (ks : Trees N) → length (nodes_each ks) ≡ size_each ks
  length-nodes_each no_trees = refl
  length-nodes_each (tree_and t ks) = omega (arith, length-append (nodes t) (nodes_each ks), length-nodes t, length-nodes_each ks)

pub nodes_each-append : {N : Type 0} (xs ys : List (Tree N)) → nodes_each (trees_of (xs ++ ys)) ≡ nodes_each (trees_of xs) ++ nodes_each (trees_of ys)
nodes_each-append [] ys = refl
nodes_each-append (x ∷ xs) ys =
    ap (λ ns. nodes x ++ ns) (nodes_each-append xs ys) ∙ sym (append_assoc (nodes x) (nodes_each (trees_of xs)) (nodes_each (trees_of ys)))

-- what holds of each node, at another first number that is the same
pub EachNodeOf-from : {N : Type 0} (P : Tree N → ℕ → Type 0) (f g : ℕ) (ks : Trees N) → f ≡ g → EachNodeOf P f ks → EachNodeOf P g ks
EachNodeOf-from P f g ks e h = subst (λ (k : ℕ). EachNodeOf P k ks) e h

pub EachNode-from : {N : Type 0} (P : Tree N → ℕ → Type 0) (f g : ℕ) (t : Tree N) → f ≡ g → EachNode P f t → EachNode P g t
EachNode-from P f g t e h = subst (λ (k : ℕ). EachNode P k t) e h

pub EachNodeOf-append : {N : Type 0} (P : Tree N → ℕ → Type 0) (f : ℕ) (xs ys : List (Tree N)) → EachNodeOf P f (trees_of xs) → EachNodeOf P (f + size_each (trees_of xs)) (trees_of ys) → EachNodeOf P f (trees_of (xs ++ ys))
EachNodeOf-append P f [] ys h k = EachNodeOf-from P (f + 0) f (trees_of ys) (omega arith) k
EachNodeOf-append P f (x ∷ xs) ys h k =
    (h.0, EachNodeOf-append P (f + size x) xs ys h.1 (EachNodeOf-from P _ (f + size x + size_each (trees_of xs)) (trees_of ys) (omega arith) k))

pub EachNodeOf-split : {N : Type 0} (P : Tree N → ℕ → Type 0) (f : ℕ) (xs ys : List (Tree N)) → EachNodeOf P f (trees_of (xs ++ ys)) → EachNodeOf P f (trees_of xs) × EachNodeOf P (f + size_each (trees_of xs)) (trees_of ys)
EachNodeOf-split P f [] ys h = (tt, EachNodeOf-from P f (f + 0) (trees_of ys) (omega arith) h)
EachNodeOf-split P f (x ∷ xs) ys h =
    let more = EachNodeOf-split P (f + size x) xs ys h.1 in
    ((h.0, more.0), EachNodeOf-from P (f + size x + size_each (trees_of xs)) _ (trees_of ys) (omega arith) more.1)

mutual
  pub EachNode-with : {N : Type 0} (P Q R : Tree N → ℕ → Type 0) → ((u : Tree N) (k : ℕ) → P u k → Q u k → R u k) → (f : ℕ) (t : Tree N) → EachNode P f t → EachNode Q f t → EachNode R f t
  EachNode-with P Q R both f (branch n ks) p q = (EachNodeOf-with P Q R both f ks p.0 q.0, both _ _ p.1 q.1)

  pub EachNodeOf-with : {N : Type 0} (P Q R : Tree N → ℕ → Type 0) → ((u : Tree N) (k : ℕ) → P u k → Q u k → R u k) → (f : ℕ) (ks : Trees N) → EachNodeOf P f ks → EachNodeOf Q f ks → EachNodeOf R f ks
  EachNodeOf-with P Q R both f no_trees p q = tt
  EachNodeOf-with P Q R both f (tree_and t ks) p q = (EachNode-with P Q R both f t p.0 q.0, EachNodeOf-with P Q R both (f + size t) ks p.1 q.1)

pub EachNode-map : {N : Type 0} (P Q : Tree N → ℕ → Type 0) → ((u : Tree N) (k : ℕ) → P u k → Q u k) → (f : ℕ) (t : Tree N) → EachNode P f t → EachNode Q f t
EachNode-map P Q more f t p = EachNode-with P P Q (λ u k h _. more u k h) f t p p

pub EachNodeOf-map : {N : Type 0} (P Q : Tree N → ℕ → Type 0) → ((u : Tree N) (k : ℕ) → P u k → Q u k) → (f : ℕ) (ks : Trees N) → EachNodeOf P f ks → EachNodeOf Q f ks
EachNodeOf-map P Q more f ks p = EachNodeOf-with P P Q (λ u k h _. more u k h) f ks p p

pub EachNode-root : {N : Type 0} (P : Tree N → ℕ → Type 0) (f at : ℕ) (t : Tree N) → f + size t ≡ at + 1 → EachNode P f t → P t at
EachNode-root P f at (branch n ks) e h = subst (λ (k : ℕ). P (branch n ks) k) (omega arith) h.1

-- an element, as the first of what a drop leaves
pub drop_at_place : {X : Type 0} (xs : List X) (i : ℕ) → i < length xs → (x : X) × (drop i xs ≡ x ∷ drop (i + 1) xs) × (slice_get xs i ≡ Some x)
drop_at_place [] i h = absurd (omega arith)
drop_at_place (x ∷ xs) zero h = (x, refl, refl)
drop_at_place (x ∷ xs) (suc i) h =
    let rest = drop_at_place xs i (omega arith) in
    let more : suc (i + 1) ≡ suc i + 1 = omega arith in
    (rest.0, rest.1 ∙ ap (λ (k : ℕ). rest.0 ∷ drop k (x ∷ xs)) more, rest.2)

-- the tree that has j trees behind it, and its number, where `top` is the number behind it
pub nth_last : {N : Type 0} (P : Tree N → ℕ → Type 0) (f : ℕ) (ts : List (Tree N)) (j top : ℕ) → EachNodeOf P f (trees_of ts) → j < length ts → top + size_each (trees_of (drop (length ts - j) ts)) ≡ f + size_each (trees_of ts) → (u : Tree N) × P u (top - 1) × (f + size u ≤ top) × (drop (length ts - (j + 1)) ts ≡ u ∷ drop (length ts - j) ts) × (slice_get ts (length ts - (j + 1)) ≡ Some u)
nth_last {N} P f ts j top h below e =
    let i = length ts - (j + 1) in
    let place = drop_at_place ts i (omega arith) in
    let u = place.0 in
    let rest = drop (length ts - j) ts in
    let one_more : i + 1 ≡ length ts - j = omega arith in
    let behind : drop i ts ≡ u ∷ rest = place.1 ∙ ap (λ (k : ℕ). u ∷ drop k ts) one_more in
    let whole : take i ts ++ (u ∷ rest) ≡ ts = ap (λ xs. take i ts ++ xs) (sym behind) ∙ take-append-drop i ts in
    let sizes : size_each (trees_of (take i ts)) + (size u + size_each (trees_of rest)) ≡ size_each (trees_of ts) =
    sym (size_each-append (take i ts) (u ∷ rest)) ∙ ap (λ xs. size_each (trees_of xs)) whole in
    let parts = EachNodeOf-split P f (take i ts) (u ∷ rest) (subst (λ (xs : List (Tree N)). EachNodeOf P f (trees_of xs)) (sym whole) h) in
    let some = size_above u in
    (u, EachNode-root P (f + size_each (trees_of (take i ts))) (top - 1) u (omega arith) parts.1.0, omega arith, behind, place.2)
