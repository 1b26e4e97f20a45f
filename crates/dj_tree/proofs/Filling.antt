-- The loops that put the nodes of one tree into an arena.
use Rattle.std.proofs.Common.{◌≡◌, ℕ, suc, ◌+◌, ◌<◌, ◌≤◌, List, [], ◌∷◌, ◌++◌, length, map, take, drop, get_or, Some, refl, sym, ap, ap₂, ◌∙◌, subst, append_assoc, length-append, arith}
use Rattle.std.specs.Prelude.{All, slice_get}
use Rattle.std.proofs.lemmas.List.{map-append, take-append-drop, take_more}
use Rattle.std.proofs.lemmas.List.Elements.{All-nil, All-push, All-append, All-weaker}
use Rattle.std.proofs.lemmas.Option.{get_or_from_slice_get, slice_get_within}
use Rattle.dj_names.specs.Texts.{Text, Extends}
use Rattle.dj_names.proofs.Extending.{extends_transitive}
use Rattle.arena_walk.specs.Tree.{Tree, Trees, branch, no_trees, tree_and, trees_of, root_of, size, size_each, nodes, nodes_each, EachNode, EachNodeOf}
use Rattle.arena_walk.specs.Forest.{trees, tree_at, HasArity}
use Rattle.arena_walk.proofs.TreeLemmas.{drop_at_place, size_each-append, EachNode-root, EachNodeOf-split}
use Rattle.arena_walk.proofs.ForestLemmas.{size-trees, have_own}
use Rattle.dj_tree.specs.PostOrder.{finished, IsPostOrder}
use Rattle.dj_tree.proofs.Orders.{finished_enough, finished_between, count_behind, tree_of}
use Rattle.dj_tree.proofs.Growing.{at_number}

-- The marks that are done have their nodes behind the old ones. `key` is what names make of a node, and `view` of a mark.
pub record Filled {N M K : Type 0} (key : List Text → N → K) (Known : List Text → N → Type 0) (view : M → K) (done : List M) (names later : List Text) (old new : List N) (root : ℕ) : Type 0 where
  pub added : List N
  pub all : new ≡ old ++ added
  pub same : map (key later) added ≡ map view done
  pub known : All (Known later) added
  pub grown : Extends names later
  pub few : length later ≤ length names + length done
  pub root_is : 0 < length done → root + 1 ≡ length new

-- the element that a loop is at
pub at_index : {X : Type 0} (xs : List X) (i : ℕ) (d : X) → i < length xs → slice_get xs i ≡ Some (get_or xs i d)
at_index xs i d inside = let place = drop_at_place xs i inside in place.2 ∙ ap (λ x. Some x) (sym (get_or_from_slice_get xs i place.0 d place.2))

mutual
  -- what holds of each node of a tree holds of the nodes in its list
  pub all_nodes : {F : Type 0} (Q : F → Type 0) (first : ℕ) (t : Tree F) → EachNode (λ u _. Q (root_of u)) first t → All Q (nodes t)
  all_nodes Q first (branch n ks) h = All-push Q (nodes_each ks) n (all_nodes_each Q first ks h.0) h.1

  all_nodes_each : {F : Type 0} (Q : F → Type 0) (first : ℕ) (ks : Trees F) → EachNodeOf (λ u _. Q (root_of u)) first ks → All Q (nodes_each ks)
  all_nodes_each Q first no_trees h = All-nil Q
  all_nodes_each Q first (tree_and t ks) h = All-append Q (nodes t) (nodes_each ks) (all_nodes Q first t h.0) (all_nodes_each Q (first + size t) ks h.1)

-- the last of the finished trees is that of the last node
pub last_tree : {N : Type 0} (arity : N → ℕ) (ns : List N) (before : List (Tree N)) (t : Tree N) (at : ℕ) → trees arity ns ≡ before ++ t ∷ [] → at + 1 ≡ length ns → tree_at arity ns at ≡ Some t
last_tree {N} arity ns before t at e last =
    let P : Tree N → ℕ → Type 0 = λ u k. tree_at arity ns k ≡ Some u in
    let parts = EachNodeOf-split P 0 before (t ∷ []) (subst (λ (xs : List (Tree N)). EachNodeOf P 0 (trees_of xs)) e (have_own arity ns)) in
    let sizes : size_each (trees_of before) + (size t + 0) ≡ length ns = sym (size_each-append before (t ∷ [])) ∙ ap (λ xs. size_each (trees_of xs)) (sym e) ∙ size-trees arity ns in
    EachNode-root P (0 + size_each (trees_of before)) at t (omega arith) parts.1.0

module _ {N M K : Type 0} (arity : N → ℕ) (key : List Text → N → K) (Known : List Text → N → Type 0) (view : M → K) (width : K → ℕ)
    (weighs : (names : List Text) (n : N) → width (key names n) ≡ arity n)
    (stays : (names later : List Text) (n : N) → Extends names later → Known names n → key later n ≡ key names n)
    (remains : (names later : List Text) (n : N) → Extends names later → Known names n → Known later n) where
  kept_keys : (names later : List Text) (ns : List N) → Extends names later → ((k : ℕ) (n : N) → slice_get ns k ≡ Some n → Known names n) → map (key later) ns ≡ map (key names) ns
  kept_keys names later [] e h = refl
  kept_keys names later (n ∷ ns) e h = ap₂ (λ x xs. x ∷ xs) (stays names later n e (h 0 n refl)) (kept_keys names later ns e (λ k m is. h (suc k) m is))

  -- one mark more
  filled_more : (done : List M) (m : M) (names between later : List Text) (old new newer : List N) (before root : ℕ) (n : N) → Filled key Known view done names between old new before
      → Extends between later → length later ≤ length between + 1 → newer ≡ new ++ n ∷ [] → root ≡ length new → key later n ≡ view m → Known later n
      → Filled key Known view (done ++ m ∷ []) names later old newer root
  filled_more done m names between later old new newer before root n f e few is at same known =
      record {
        added = f.added ++ n ∷ [];
        all = is ∙ ap (λ xs. xs ++ n ∷ []) f.all ∙ append_assoc old f.added (n ∷ []);
        same = map-append (key later) f.added (n ∷ []) ∙ ap₂ (λ xs x. xs ++ x ∷ []) (kept_keys between later f.added e (λ k x there. at_number (Known between) f.added k x f.known there) ∙ f.same) same
            ∙ sym (map-append view done (m ∷ []));
        known = All-push (Known later) f.added n (All-weaker (Known between) (Known later) (λ x h. remains between later x e h) f.added f.known) known;
        grown = extends_transitive names between later f.grown e;
        few = omega (arith, f.few, length-append done (m ∷ []));
        root_is = λ some. omega (arith, ap length is, length-append new (n ∷ []));
      }

  -- the mark at a number more
  pub filled_next : (marks : List M) (i : ℕ) (d : M) (names between later : List Text) (old new newer : List N) (before root : ℕ) (n : N) → i < length marks
      → Filled key Known view (take i marks) names between old new before → Extends between later → length later ≤ length between + 1 → newer ≡ new ++ n ∷ [] → root ≡ length new
      → key later n ≡ view (get_or marks i d) → Known later n → Filled key Known view (take (i + 1) marks) names later old newer root
  filled_next marks i d names between later old new newer before root n inside f e few is at same known =
      subst (λ xs. Filled key Known view xs names later old newer root) (sym (take_more marks i d inside))
      (filled_more (take i marks) (get_or marks i d) names between later old new newer before root n f e few is at same known)

  weights : (names : List Text) (ns : List N) → map width (map (key names) ns) ≡ map arity ns
  weights names [] = refl
  weights names (n ∷ ns) = ap₂ (λ x xs. x ∷ xs) (weighs names n) (weights names ns)

  -- the next mark finds enough trees
  pub filled_enough : (marks : List M) (i : ℕ) (m : M) (names later : List Text) (old new : List N) (root : ℕ) → IsPostOrder (map width (map view marks)) → slice_get marks i ≡ Some m
      → Filled key Known view (take i marks) names later old new root → width (view m) ≤ length (trees arity new)
  filled_enough marks i m names later old new root order at f =
      let inside = slice_get_within marks i m at in
      let place = drop_at_place marks i inside in
      let this : place.0 ≡ m = cc in
      let whole : marks ≡ take i marks ++ m ∷ drop (i + 1) marks = sym (take-append-drop i marks) ∙ ap (λ xs. take i marks ++ xs) (place.1 ∙ ap (λ x. x ∷ drop (i + 1) marks) this) in
      let widths : List M → List ℕ = λ xs. map width (map view xs) in
      let parts : widths marks ≡ widths (take i marks) ++ width (view m) ∷ widths (drop (i + 1) marks) =
      ap widths whole ∙ ap (map width) (map-append view (take i marks) (m ∷ drop (i + 1) marks)) ∙ map-append width (map view (take i marks)) (map view (m ∷ drop (i + 1) marks)) in
      let between = finished_between 0 1 (widths (take i marks)) (width (view m) ∷ widths (drop (i + 1) marks)) (ap (finished 0) (sym parts) ∙ order) in
      let enough = finished_enough between.0 (width (view m)) 1 (widths (drop (i + 1) marks)) between.2 in
      let same : map arity f.added ≡ widths (take i marks) = sym (weights later f.added) ∙ ap (map width) f.same in
      let count = count_behind arity old f.added between.0 (ap (finished 0) same ∙ between.1) in
      omega (arith, enough.0, count, ap (λ xs. length (trees arity xs)) f.all)

  -- all marks are done
  pub filled_all : (marks : List M) (names later : List Text) (old new : List N) (root : ℕ) → IsPostOrder (map width (map view marks)) → Filled key Known view marks names later old new root
      → (t : Tree N) × (tree_at arity new root ≡ Some t) × (map (key later) (nodes t) ≡ map view marks) × EachNode (λ u _. HasArity arity u) 0 t × (root < length new)
  filled_all [] names later old new root order f = absurd (cc)
  filled_all (m ∷ marks) names later old new root order f =
      let same : map arity f.added ≡ map width (map view (m ∷ marks)) = sym (weights later f.added) ∙ ap (map width) f.same in
      let t = tree_of arity old f.added (ap (finished 0) same ∙ order) in
      let end : root + 1 ≡ length new = f.root_is (omega arith) in
      let last : trees arity new ≡ trees arity old ++ t.tree ∷ [] = ap (trees arity) f.all ∙ t.last in
      (t.tree, last_tree arity new (trees arity old) t.tree root last end, ap (map (key later)) t.same ∙ f.same, t.full, omega arith)
