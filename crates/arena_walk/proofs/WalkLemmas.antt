-- A walk over the nodes of one tree, with a stack of trees that nobody holds and a stack of outs.
use Rattle.std.proofs.Common.{◌≡◌, ℕ, ◌+◌, ◌-◌, ◌<◌, ◌≤◌, List, [], ◌∷◌, ◌++◌, length, take, drop, fold, slice_get, Option, Some, None, Result, Ok, Err, OnErr, zero, suc, refl, sym, ap, ◌∙◌, subst, append_assoc, length-append, length-take, arith}
use Rattle.std.specs.List.{AllZip, range_with_len}
use Rattle.std.proofs.lemmas.List.{append-nil, take_all, drop_more, get_or-take}
use Rattle.std.proofs.lemmas.Option.{slice_get_within, get_or_from_slice_get}
use Rattle.std.proofs.lemmas.List.Sums.{fold_push, fold-append}
use Rattle.arena_walk.specs.Tree.{Tree, Trees, branch, no_trees, tree_and, trees_of, list_of, over, size, size_each, nodes, nodes_each, numbers, numbers_each, EachNode, EachNodeOf}
use Rattle.arena_walk.specs.Forest.{last_trees, grow, HasArity}
use Rattle.std.specs.Io.KnownBytes.{Keeps, append_known}
use Rattle.arena_walk.proofs.TreeLemmas.{trees_of-list_of, length-nodes, length-nodes_each, EachNode-map, EachNodeOf-map, EachNode-with}
use Rattle.arena_walk.proofs.ForestLemmas.{others, grow-is, grow-append, last_trees-append}

-- each node finds as many trees as its arity, and P holds of its tree and its number
abbrev pub Steps : {N : Type 0} → (N → ℕ) → (Tree N → ℕ → Type 0) → ℕ → List (Tree N) → List N → Type 0
Steps arity P at ts [] = Unit {0}
Steps arity P at ts (n ∷ ns) =
    (arity n ≤ length ts) × P (over n (last_trees arity ts n)) at × Steps arity P (at + 1) (grow arity ts n) ns

Steps-append : {N : Type 0} (arity : N → ℕ) (P : Tree N → ℕ → Type 0) (at : ℕ) (ts : List (Tree N)) (xs ys : List N) → Steps arity P at ts xs → Steps arity P (at + length xs) (fold (grow arity) ts xs) ys → Steps arity P at ts (xs ++ ys)
Steps-append arity P at ts [] ys h k =
    let same : at + 0 ≡ at = omega arith in
    subst (λ (i : ℕ). Steps arity P i ts ys) same k
Steps-append arity P at ts (x ∷ xs) ys h k =
    let same : at + suc (length xs) ≡ at + 1 + length xs = omega arith in
    (h.0, h.1, Steps-append arity P (at + 1) (grow arity ts x) xs ys h.2 (subst (λ (i : ℕ). Steps arity P i (fold (grow arity) (grow arity ts x) xs) ys) same k))

-- the nodes of a tree add that tree to any others
mutual
  pub grows : {N : Type 0} (arity : N → ℕ) (ts : List (Tree N)) (f : ℕ) (t : Tree N) → EachNode (λ u _. HasArity arity u) f t → fold (grow arity) ts (nodes t) ≡ ts ++ t ∷ []
  grows arity ts f (branch n ks) h =
      fold_push (grow arity) ts (nodes_each ks) n ∙ ap (λ us. grow arity us n) (grows_each arity ts f ks h.0) ∙ grow-append arity ts (list_of ks) n h.1
      ∙ ap (λ us. ts ++ branch n us ∷ []) (trees_of-list_of ks)

  pub grows_each : {N : Type 0} (arity : N → ℕ) (ts : List (Tree N)) (f : ℕ) (ks : Trees N) → EachNodeOf (λ u _. HasArity arity u) f ks → fold (grow arity) ts (nodes_each ks) ≡ ts ++ list_of ks
  grows_each arity ts f no_trees h = sym (append-nil ts)
  grows_each arity ts f (tree_and t ks) h =
      fold-append (grow arity) ts (nodes t) (nodes_each ks) ∙ ap (λ us. fold (grow arity) us (nodes_each ks)) (grows arity ts f t h.0)
      ∙ grows_each arity (ts ++ t ∷ []) (f + size t) ks h.1 ∙ append_assoc ts (t ∷ []) (list_of ks)

abbrev Both : {N : Type 0} → (N → ℕ) → (Tree N → ℕ → Type 0) → Tree N → ℕ → Type 0
Both arity P u k = HasArity arity u × P u k

last_step : {N : Type 0} (arity : N → ℕ) (P : Tree N → ℕ → Type 0) (at : ℕ) (ts us : List (Tree N)) (n : N) (ks : Trees N) → us ≡ ts ++ list_of ks → length (list_of ks) ≡ arity n → P (branch n ks) at → Steps arity P at us (n ∷ [])
last_step {N} arity P at ts us n ks e a p =
    let kids : last_trees arity us n ≡ list_of ks = ap (λ xs. last_trees arity xs n) e ∙ last_trees-append arity ts (list_of ks) n a in
    let tree : branch n ks ≡ over n (last_trees arity us n) = ap (branch n) (sym (ap trees_of kids ∙ trees_of-list_of ks)) in
    (omega (arith, ap length e, length-append ts (list_of ks)), subst (λ (u : Tree N). P u at) tree p, tt)

mutual
  pub steps_of : {N : Type 0} (arity : N → ℕ) (P : Tree N → ℕ → Type 0) (f : ℕ) (ts : List (Tree N)) (t : Tree N) → EachNode (Both arity P) f t → Steps arity P f ts (nodes t)
  steps_of arity P f ts (branch n ks) h =
      let full = EachNodeOf-map (Both arity P) (λ u _. HasArity arity u) (λ u k b. b.0) f ks h.0 in
      let at : f + size_each ks ≡ f + length (nodes_each ks) = omega (arith, length-nodes_each ks) in
      Steps-append arity P f ts (nodes_each ks) (n ∷ []) (steps_of_each arity P f ts ks h.0)
      (last_step arity P (f + length (nodes_each ks)) ts (fold (grow arity) ts (nodes_each ks)) n ks (grows_each arity ts f ks full) h.1.0 (subst (λ (i : ℕ). P (branch n ks) i) at h.1.1))

  pub steps_of_each : {N : Type 0} (arity : N → ℕ) (P : Tree N → ℕ → Type 0) (f : ℕ) (ts : List (Tree N)) (ks : Trees N) → EachNodeOf (Both arity P) f ks → Steps arity P f ts (nodes_each ks)
  steps_of_each arity P f ts no_trees h = tt
  steps_of_each {N} arity P f ts (tree_and t ks) h =
      let full = EachNode-map (Both arity P) (λ u _. HasArity arity u) (λ u k b. b.0) f t h.0 in
      let at : f + size t ≡ f + length (nodes t) = omega (arith, length-nodes t) in
      Steps-append arity P f ts (nodes t) (nodes_each ks) (steps_of arity P f ts t h.0)
      (subst (λ (i : ℕ). Steps arity P i (fold (grow arity) ts (nodes t)) (nodes_each ks)) at
      (subst (λ (us : List (Tree N)). Steps arity P (f + size t) us (nodes_each ks)) (sym (grows arity ts f t full)) (steps_of_each arity P (f + size t) (ts ++ t ∷ []) ks h.1)))

-- a walk of a tree that stands before the nodes `rest`, the next one with the number `at`
pub record IsAlong {N Out : Type 0} (arity : N → ℕ) (stands : Tree N → Out → Type 0) (admits : Tree N → ℕ → Type 0) (t : Tree N) (at : ℕ) (rest : List N) (outs : List Out) : Type 0 where
  pub ts : List (Tree N)
  pub steps : Steps arity admits at ts rest
  pub ends : fold (grow arity) ts rest ≡ t ∷ []
  pub stand : AllZip stands ts outs

pub along_start : {N Out : Type 0} (arity : N → ℕ) (stands : Tree N → Out → Type 0) (admits : Tree N → ℕ → Type 0) (t : Tree N) (at : ℕ) (rest : List N) → EachNode (λ u _. HasArity arity u) at t → EachNode admits at t → rest ≡ nodes t → IsAlong arity stands admits t at rest []
along_start {N} {Out} arity stands admits t at rest full each e =
    let both = EachNode-with (λ u _. HasArity arity u) admits (Both arity admits) (λ u k a p. (a, p)) at t full each in
    record {
      ts = [];
      steps = subst (λ (xs : List N). Steps arity admits at [] xs) (sym e) (steps_of arity admits at [] t both);
      ends = ap (fold (grow arity) []) e ∙ grows arity [] at t full;
      stand = tt;
    }

pub length_outs : {A B : Type 0} (R : A → B → Type 0) (kids : List A) (outs : List B) → AllZip R kids outs → length kids ≡ length outs
length_outs R [] [] h = refl
length_outs R [] (y ∷ ys) h = absurd h
length_outs R (x ∷ xs) [] h = absurd h
length_outs R (x ∷ xs) (y ∷ ys) h = ap suc (length_outs R xs ys h.1)

AllZip-drop : {A B : Type 0} (R : A → B → Type 0) (i : ℕ) (xs : List A) (ys : List B) → AllZip R xs ys → AllZip R (drop i xs) (drop i ys)
AllZip-drop R zero xs ys h = h
AllZip-drop R (suc i) [] [] h = tt
AllZip-drop R (suc i) [] (y ∷ ys) h = absurd h
AllZip-drop R (suc i) (x ∷ xs) [] h = absurd h
AllZip-drop R (suc i) (x ∷ xs) (y ∷ ys) h = AllZip-drop R i xs ys h.1

AllZip-take : {A B : Type 0} (R : A → B → Type 0) (i : ℕ) (xs : List A) (ys : List B) → AllZip R xs ys → AllZip R (take i xs) (take i ys)
AllZip-take R zero xs ys h = tt
AllZip-take R (suc i) [] [] h = tt
AllZip-take R (suc i) [] (y ∷ ys) h = absurd h
AllZip-take R (suc i) (x ∷ xs) [] h = absurd h
AllZip-take R (suc i) (x ∷ xs) (y ∷ ys) h = (h.0, AllZip-take R i xs ys h.1)

pub AllZip-more : {A B : Type 0} (R : A → B → Type 0) (xs : List A) (ys : List B) (x : A) (y : B) → AllZip R xs ys → R x y → AllZip R (xs ++ x ∷ []) (ys ++ y ∷ [])
AllZip-more R [] [] x y h r = (r, tt)
AllZip-more R [] (b ∷ ys) x y h r = absurd h
AllZip-more R (a ∷ xs) [] x y h r = absurd h
AllZip-more R (a ∷ xs) (b ∷ ys) x y h r = (h.0, AllZip-more R xs ys x y h.1 r)

AllZip-map : {A B : Type 0} (R S : A → B → Type 0) (xs : List A) (ys : List B) → ((x : A) (y : B) → R x y → S x y) → AllZip R xs ys → AllZip S xs ys
AllZip-map R S [] [] more h = tt
AllZip-map R S [] (y ∷ ys) more h = absurd h
AllZip-map R S (x ∷ xs) [] more h = absurd h
AllZip-map R S (x ∷ xs) (y ∷ ys) more h = (more x y h.0, AllZip-map R S xs ys more h.1)

-- what stands for the children of the next node
kids_stand : {N Out : Type 0} (arity : N → ℕ) (stands : Tree N → Out → Type 0) (ts : List (Tree N)) (outs : List Out) (n : N) → AllZip stands ts outs → AllZip stands (last_trees arity ts n) (drop (length outs - arity n) outs)
unfolding last_trees
kids_stand {N} {Out} arity stands ts outs n h =
    let same = length_outs stands ts outs h in
    subst (λ (k : ℕ). AllZip stands (drop (length ts - arity n) ts) (drop (k - arity n) outs)) same (AllZip-drop stands (length ts - arity n) ts outs h)

pub along_enough : {N Out : Type 0} (arity : N → ℕ) (stands : Tree N → Out → Type 0) (admits : Tree N → ℕ → Type 0) (t : Tree N) (at : ℕ) (n : N) (rest : List N) (outs : List Out) → IsAlong arity stands admits t at (n ∷ rest) outs → arity n ≤ length outs
along_enough arity stands admits t at n rest outs h = omega (arith, h.steps.0, length_outs stands h.ts outs h.stand)

pub along_kids : {N Out : Type 0} (arity : N → ℕ) (stands : Tree N → Out → Type 0) (admits : Tree N → ℕ → Type 0) (t : Tree N) (at : ℕ) (n : N) (rest : List N) (outs : List Out) → IsAlong arity stands admits t at (n ∷ rest) outs → (kids : List (Tree N)) × AllZip stands kids (drop (length outs - arity n) outs) × admits (over n kids) at
along_kids arity stands admits t at n rest outs h =
    (last_trees arity h.ts n, kids_stand arity stands h.ts outs n h.stand, h.steps.1)

pub along_next : {N Out : Type 0} (arity : N → ℕ) (stands still : Tree N → Out → Type 0) (admits : Tree N → ℕ → Type 0) (t : Tree N) (at : ℕ) (n : N) (rest : List N) (outs : List Out) (out : Out) → IsAlong arity stands admits t at (n ∷ rest) outs → ((u : Tree N) (o : Out) → stands u o → still u o) → ((kids : List (Tree N)) → AllZip stands kids (drop (length outs - arity n) outs) → admits (over n kids) at → still (over n kids) out) → IsAlong arity still admits t (at + 1) rest (take (length outs - arity n) outs ++ out ∷ [])
along_next {N} {Out} arity stands still admits t at n rest outs out h stay here =
    let kids = last_trees arity h.ts n in
    let same : length h.ts ≡ length outs = length_outs stands h.ts outs h.stand in
    let front : AllZip still (others arity h.ts n) (take (length outs - arity n) outs) =
    subst (λ (k : ℕ). AllZip still (others arity h.ts n) (take (k - arity n) outs)) same
    (AllZip-map stands still _ _ stay (AllZip-take stands (length h.ts - arity n) h.ts outs h.stand)) in
    let stand = AllZip-more still (others arity h.ts n) (take (length outs - arity n) outs) (over n kids) out front (here kids (kids_stand arity stands h.ts outs n h.stand) h.steps.1) in
    record {
      ts = grow arity h.ts n;
      steps = h.steps.2;
      ends = h.ends;
      stand = subst (λ (xs : List (Tree N)). AllZip still xs (take (length outs - arity n) outs ++ out ∷ [])) (sym (grow-is arity h.ts n)) stand;
    }

one_stands : {A B : Type 0} (R : A → B → Type 0) (x : A) (ys : List B) → AllZip R (x ∷ []) ys → (y : B) × (ys ≡ y ∷ []) × R x y
one_stands R x [] h = absurd h
one_stands R x (y ∷ []) h = (y, refl, h.0)
one_stands R x (y ∷ z ∷ ys) h = absurd h.1

pub along_end : {N Out : Type 0} (arity : N → ℕ) (stands : Tree N → Out → Type 0) (admits : Tree N → ℕ → Type 0) (t : Tree N) (at : ℕ) (rest : List N) (outs : List Out) → rest ≡ [] → IsAlong arity stands admits t at rest outs → (out : Out) × (outs ≡ out ∷ []) × stands t out
along_end {N} {Out} arity stands admits t at rest outs e h =
    let one : h.ts ≡ t ∷ [] = ap (fold (grow arity) h.ts) (sym e) ∙ h.ends in
    one_stands stands t outs (subst (λ (xs : List (Tree N)). AllZip stands xs outs) one h.stand)

range-append : (f m n : ℕ) → range_with_len f m ++ range_with_len (f + m) n ≡ range_with_len f (m + n)
range-append f zero n =
    let same : f + 0 ≡ f = omega arith in
    let none : zero + n ≡ n = omega arith in
    ap (λ (k : ℕ). range_with_len k n) same ∙ ap (range_with_len f) (sym none)
range-append f (suc m) n =
    let more : f + suc m ≡ f + 1 + m = omega arith in
    let one : suc (m + n) ≡ suc m + n = omega arith in
    ap (λ (k : ℕ). f ∷ (range_with_len (f + 1) m ++ range_with_len k n)) more ∙ ap (λ xs. f ∷ xs) (range-append (f + 1) m n) ∙ ap (range_with_len f) one

range-push : (f n : ℕ) → range_with_len f n ++ (f + n) ∷ [] ≡ range_with_len f (n + 1)
range-push f n = range-append f n 1

range-take : (f m n : ℕ) → m ≤ n → take m (range_with_len f n) ≡ range_with_len f m
range-take f zero n h = refl
range-take f (suc m) zero h = absurd (omega arith)
range-take f (suc m) (suc n) h = ap (λ xs. f ∷ xs) (range-take (f + 1) m n (omega arith))

-- the numbers of a tree are those from the first one on
mutual
  pub numbers-range : {N : Type 0} (f : ℕ) (t : Tree N) → numbers f t ≡ range_with_len f (size t)
  numbers-range f (branch n ks) = ap (λ xs. xs ++ (f + size_each ks) ∷ []) (numbers_each-range f ks) ∙ range-push f (size_each ks)

  pub numbers_each-range : {N : Type 0} (f : ℕ) (ks : Trees N) → numbers_each f ks ≡ range_with_len f (size_each ks)
  numbers_each-range f no_trees = refl
  numbers_each-range f (tree_and t ks) =
      ap (λ xs. xs ++ numbers_each (f + size t) ks) (numbers-range f t) ∙ ap (λ xs. range_with_len f (size t) ++ xs) (numbers_each-range (f + size t) ks)
      ∙ range-append f (size t) (size_each ks)

length-range : (f n : ℕ) → length (range_with_len f n) ≡ n
length-range f zero = refl
length-range f (suc n) = ap suc (length-range (f + 1) n)

pub length-numbers : {N : Type 0} (f : ℕ) (t : Tree N) → length (numbers f t) ≡ size t
length-numbers f t = ap length (numbers-range f t) ∙ length-range f (size t)

-- one number more
pub numbers_more : {N : Type 0} (f at : ℕ) (t : Tree N) → f ≤ at → at < f + size t → take (at - f) (numbers f t) ++ at ∷ [] ≡ take (at + 1 - f) (numbers f t)
numbers_more f at t low high =
    let here : at ≡ f + (at - f) = omega arith in
    let more : at - f + 1 ≡ at + 1 - f = omega arith in
    let is = numbers-range f t in
    ap (λ xs. take (at - f) xs ++ at ∷ []) is ∙ ap (λ xs. xs ++ at ∷ []) (range-take f (at - f) (size t) (omega arith))
    ∙ ap (λ (k : ℕ). range_with_len f (at - f) ++ k ∷ []) here ∙ range-push f (at - f) ∙ ap (range_with_len f) more
    ∙ sym (range-take f (at + 1 - f) (size t) (omega arith)) ∙ ap (take (at + 1 - f)) (sym is)

pub numbers_all : {N : Type 0} (f k : ℕ) (t : Tree N) → size t ≤ k → take k (numbers f t) ≡ numbers f t
numbers_all f k t h = take_all k (numbers f t) (omega (arith, length-numbers f t))

-- what is told, step by step
tells-none : (told : Option (List ℕ)) → Keeps told (append_known told [])
tells-none None = tt
tells-none (Some xs) = append-nil xs

tells-more : (old between new : Option (List ℕ)) (xs ys : List ℕ) → Keeps between (append_known old xs) → Keeps new (append_known between ys)
    → Keeps new (append_known old (xs ++ ys))
tells-more old between None xs ys h k = tt
tells-more old None (Some c) xs ys h k = absurd k
tells-more None (Some b) (Some c) xs ys h k = absurd h
tells-more (Some a) (Some b) (Some c) xs ys h k = sym (append_assoc a xs ys) ∙ ap (λ zs. zs ++ ys) h ∙ k

pub tells-same : (old new : Option (List ℕ)) (xs ys : List ℕ) → xs ≡ ys → Keeps new (append_known old xs) → Keeps new (append_known old ys)
tells-same old new xs ys e h = subst (λ (zs : List ℕ). Keeps new (append_known old zs)) e h

pub told_more : {N : Type 0} (old between new : Option (List ℕ)) (f at : ℕ) (t : Tree N) → f ≤ at → at < f + size t
    → Keeps between (append_known old (take (at - f) (numbers f t))) → Keeps new (append_known between (at ∷ []))
    → Keeps new (append_known old (take (at + 1 - f) (numbers f t)))
told_more old between new f at t low high told one =
    tells-same old new _ _ (numbers_more f at t low high) (tells-more old between new (take (at - f) (numbers f t)) (at ∷ []) told one)

pub told_none : {N : Type 0} (told : Option (List ℕ)) (f at : ℕ) (t : Tree N) → at ≡ f → Keeps told (append_known told (take (at - f) (numbers f t)))
told_none told f at t e =
    let none : 0 ≡ at - f = omega arith in
    tells-same told told [] _ (ap (λ (k : ℕ). take k (numbers f t)) none) (tells-none told)

pub OnErr-always : {T E : Type 0} (r : Result T E) (P : Type 0) → P → OnErr r P
OnErr-always (Ok x) P h = tt
OnErr-always (Err e) P h = h

-- the next node, among the nodes that a walk has left
pub next_node : {N : Type 0} (ns : List N) (end at : ℕ) (n : N) → slice_get ns at ≡ Some n → at < end → drop at (take end ns) ≡ n ∷ drop (at + 1) (take end ns)
next_node ns end at n e h =
    let inside = slice_get_within ns at n e in
    drop_more (take end ns) at n (omega (arith, length-take end ns)) ∙ ap (λ x. x ∷ drop (at + 1) (take end ns)) (get_or-take end ns at n h ∙ get_or_from_slice_get ns at n n e)

pub along_at : {N Out : Type 0} (arity : N → ℕ) (stands : Tree N → Out → Type 0) (admits : Tree N → ℕ → Type 0) (t : Tree N) (at : ℕ) (xs ys : List N) (outs : List Out) → xs ≡ ys → IsAlong arity stands admits t at xs outs → IsAlong arity stands admits t at ys outs
along_at {N} arity stands admits t at xs ys outs e h = subst (λ (zs : List N). IsAlong arity stands admits t at zs outs) e h

pub along_with : {N Out : Type 0} (arity : N → ℕ) (stands : Tree N → Out → Type 0) (admits : Tree N → ℕ → Type 0) (t : Tree N) (at : ℕ) (rest : List N) (os us : List Out) → os ≡ us → IsAlong arity stands admits t at rest os → IsAlong arity stands admits t at rest us
along_with {N} {Out} arity stands admits t at rest os us e h = subst (λ (xs : List Out). IsAlong arity stands admits t at rest xs) e h
