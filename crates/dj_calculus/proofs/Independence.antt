-- Steps that are independent: each leaves the other as defined as it was, and they come to the same in either order. For clients: runs of
-- steps in another order (`run_reordered`), and where they are defined (`run_defined`).
use Rattle.std.proofs.Common.{◌≡◌, ℕ, zero, suc, ◌<◌, List, [], ◌∷◌, Option, Some, None, length, slice_index_or, slice_set, refl, sym, ap, ◌∙◌, arith}
use Rattle.std.specs.Option.{option_and_then}
use Rattle.std.specs.List.{swap}
use Rattle.std.specs.List.Sorted.{IsPermutation, apply_swaps, SwapsInRange}
use Rattle.dj_calculus.specs.Operations.{run}
use Rattle.dj_calculus.proofs.Members.{Each, none, and, taken}

pub record Independent {S : Type 0} (f g : S → Option S) : Type 0 where
  pub both : (s a b : S) → f s ≡ Some a → g s ≡ Some b → (z : S) × (g a ≡ Some z) × (f b ≡ Some z)
  pub left : (s a : S) → f s ≡ Some a → g s ≡ None → g a ≡ None
  pub right : (s b : S) → g s ≡ Some b → f s ≡ None → f b ≡ None

pub turned : {S : Type 0} (f g : S → Option S) → Independent f g → Independent g f
turned f g i = record { both = λ s a b p q. let w = i.both s b a q p in (w.0, w.2, w.1); left = i.right; right = i.left }

abbrev pub Defined : {S : Type 0} → (S → Option S) → S → Type 0
Defined {S} f s = (a : S) × (f s ≡ Some a)

pub still_defined : {S : Type 0} (f g : S → Option S) (s a : S) → Independent f g → f s ≡ Some a → Defined g s → Defined g a
still_defined f g s a i p q = let w = i.both s a q.0 p q.1 in (w.0, w.1)

abbrev Exchanged : {S : Type 0} → (S → Option S) → (S → Option S) → S → Option S → Option S → Type 0
Exchanged f g s o p = f s ≡ o → g s ≡ p → option_and_then g o ≡ option_and_then f p

exchanged : {S : Type 0} (f g : S → Option S) (s : S) (o p : Option S) → Independent f g → Exchanged f g s o p
exchanged f g s None None i e h = refl
exchanged f g s None (Some b) i e h = sym (i.right s b h e)
exchanged f g s (Some a) None i e h = i.left s a e h
exchanged f g s (Some a) (Some b) i e h = let w = i.both s a b e h in w.1 ∙ sym w.2

pub exchange : {S : Type 0} (f g : S → Option S) (s : S) → Independent f g → option_and_then g (f s) ≡ option_and_then f (g s)
exchange f g s i = exchanged f g s (f s) (g s) i refl refl

-- ---- one step after the other

module _ {S : Type 0} (f h g : S → Option S) (first : Independent f g) (second : Independent h g) where
  stays_undefined : (s b : S) (o : Option S) → f s ≡ o → g s ≡ Some b → option_and_then h o ≡ None → option_and_then h (f b) ≡ None
  stays_undefined s b None e p q = ap (option_and_then h) (first.right s b p e)
  stays_undefined s b (Some m) e p q = let w = first.both s m b e p in ap (option_and_then h) w.2 ∙ second.right m w.0 w.1 q

  pub after_each_other : Independent (λ s. option_and_then h (f s)) g
  after_each_other =
      record {
        both = λ s a b p q.
            let m = taken h (f s) a p in
            let w = first.both s m.0 b m.1 q in
            let v = second.both m.0 a w.0 m.2 w.1 in
            (v.0, v.1, ap (option_and_then h) w.2 ∙ v.2);
        left = λ s a p q. let m = taken h (f s) a p in second.left m.0 a m.2 (first.left s m.0 m.1 q);
        right = λ s b p q. stays_undefined s b (f s) refl p q;
      }

-- doing nothing is independent of all
nothing : {S : Type 0} (g : S → Option S) → Independent Some g
nothing g =
    record {
      both = λ s a b p q. let same : s ≡ a = cc in (b, rw same at q, refl);
      left = λ s a p q. let same : s ≡ a = cc in rw same at q;
      right = λ s b p q. absurd cc;
    }

module _ {X S : Type 0} (step : X → S → Option S) where
  pub run_independent : (g : S → Option S) (xs : List X) → Each (λ x. Independent (step x) g) xs → Independent (run step xs) g
  run_independent g xs none = nothing g
  run_independent g xs (and {x = x} {xs = rest} here all) = after_each_other (step x) (run step rest) g here (run_independent g rest all)

  -- each two are independent
  pub data Pairwise : List X → Type 0 where
    no_pairs : Pairwise []
    pairs : {x : X} {xs : List X} → Each (λ y. Independent (step x) (step y)) xs → Pairwise xs → Pairwise (x ∷ xs)

  all_still : (s a : S) (x : X) (xs : List X) → Each (λ y. Independent (step x) (step y)) xs → step x s ≡ Some a → Each (λ y. Defined (step y) s) xs
      → Each (λ y. Defined (step y) a) xs
  all_still s a x xs none p none = none
  all_still s a x xs (and {x = y} {xs = rest} i is) p (and d ds) = and (still_defined (step x) (step y) s a i p d) (all_still s a x rest is p ds)

  -- independent steps that are each defined are defined one after the other
  pub run_defined : (xs : List X) (s : S) → Pairwise xs → Each (λ x. Defined (step x) s) xs → Defined (run step xs) s
  run_defined xs s no_pairs none = (s, refl)
  run_defined xs s (pairs {x = x} {xs = rest} is more) (and d ds) =
      let end = run_defined rest d.0 more (all_still s d.0 x rest is d.1 ds) in
      (end.0, ap (option_and_then (run step rest)) d.1 ∙ end.1)

-- ---- orders

-- the second list has the elements of the first in another order
pub data Reordered {X : Type 0} : List X → List X → Type 0 where
  same : {xs : List X} → Reordered xs xs
  keep : (x : X) {xs ys : List X} → Reordered xs ys → Reordered (x ∷ xs) (x ∷ ys)
  crossed : (x y : X) {xs : List X} → Reordered (x ∷ y ∷ xs) (y ∷ x ∷ xs)
  joined : {xs ys zs : List X} → Reordered xs ys → Reordered ys zs → Reordered xs zs

-- the first element in the place of another, and that one first
to_place : {X : Type 0} (x : X) (ys : List X) (j : ℕ) → j < length ys → Reordered (x ∷ ys) (slice_index_or ys j x ∷ slice_set ys j x)
to_place x [] j low = absurd (omega arith)
to_place x (y ∷ ys) zero low = crossed x y
to_place x (y ∷ ys) (suc j) low = joined (crossed x y) (joined (keep y (to_place x ys j (omega arith))) (crossed y _))

index_or : {X : Type 0} (xs : List X) (i : ℕ) (d e : X) → i < length xs → slice_index_or xs i d ≡ slice_index_or xs i e
index_or [] i d e low = absurd (omega arith)
index_or (x ∷ xs) zero d e low = refl
index_or (x ∷ xs) (suc i) d e low = index_or xs i d e (omega arith)

reordered_swap : {X : Type 0} (xs : List X) (i j : ℕ) → i < length xs → j < length xs → Reordered xs (swap xs i j)
reordered_swap [] i j p q = absurd (omega arith)
reordered_swap (x ∷ xs) zero zero p q = same
reordered_swap (x ∷ xs) zero (suc j) p q = to_place x xs j (omega arith)
reordered_swap (x ∷ xs) (suc i) zero p q = to_place x xs i (omega arith)
reordered_swap (x ∷ []) (suc i) (suc j) p q = absurd (omega arith)
reordered_swap (x ∷ y ∷ xs) (suc i) (suc j) p q =
    rw (index_or (y ∷ xs) i x y (omega arith), index_or (y ∷ xs) j x y (omega arith)) (keep x (reordered_swap (y ∷ xs) i j (omega arith) (omega arith)))

as_long : {X : Type 0} (xs ys : List X) → Reordered xs ys → length xs ≡ length ys
as_long xs ys same = refl
as_long xs ys (keep x {xs = us} {ys = vs} r) = omega (arith, as_long us vs r)
as_long xs ys (crossed x y) = refl
as_long xs ys (joined {ys = ms} p q) = as_long xs ms p ∙ as_long ms ys q

pub reordered_moves : {X : Type 0} (xs : List X) (moves : List (ℕ × ℕ)) → SwapsInRange (length xs) moves → Reordered xs (apply_swaps xs moves)
reordered_moves xs [] below = same
reordered_moves xs (m ∷ moves) below =
    let before = reordered_moves xs moves below.2 in
    let long = as_long xs (apply_swaps xs moves) before in
    joined before (reordered_swap (apply_swaps xs moves) m.0 m.1 (rw (← long) below.0) (rw (← long) below.1))

pub reordered : {X : Type 0} (xs ys : List X) → IsPermutation xs ys → Reordered xs ys
reordered xs ys p = rw p.is (reordered_moves xs p.moves p.below)

pub each_reordered : {X : Type 0} (P : X → Type 0) (xs ys : List X) → Reordered xs ys → Each P xs → Each P ys
each_reordered P xs ys same all = all
each_reordered P xs ys (keep x {xs = us} {ys = vs} r) (and here all) = and here (each_reordered P us vs r all)
each_reordered P xs ys (crossed x y) (and here (and there all)) = and there (and here all)
each_reordered P xs ys (joined {ys = ms} p q) all = each_reordered P ms ys q (each_reordered P xs ms p all)

pub then_same : {S : Type 0} (f g : S → Option S) (o : Option S) → ((t : S) → f t ≡ g t) → option_and_then f o ≡ option_and_then g o
then_same f g None is = refl
then_same f g (Some t) is = is t

pub then_then : {S : Type 0} (f g : S → Option S) (o : Option S) → option_and_then g (option_and_then f o) ≡ option_and_then (λ t. option_and_then g (f t)) o
then_then f g None = refl
then_then f g (Some t) = refl

module _ {X S : Type 0} (step : X → S → Option S) where
  pub pairwise_reordered : (xs ys : List X) → Reordered xs ys → Pairwise step xs → Pairwise step ys
  pairwise_reordered xs ys same all = all
  pairwise_reordered xs ys (keep x {xs = us} {ys = vs} r) (pairs is more) = pairs (each_reordered _ us vs r is) (pairwise_reordered us vs r more)
  pairwise_reordered xs ys (crossed x y) (pairs (and i is) (pairs js more)) = pairs (and (turned (step x) (step y) i) js) (pairs is more)
  pairwise_reordered xs ys (joined {ys = ms} p q) all = pairwise_reordered ms ys q (pairwise_reordered xs ms p all)

  -- the order of independent steps doesn't matter
  pub run_reordered : (xs ys : List X) (s : S) → Reordered xs ys → Pairwise step xs → run step ys s ≡ run step xs s
  run_reordered xs ys s same all = refl
  run_reordered xs ys s (keep x {xs = us} {ys = vs} r) (pairs is more) = then_same (run step vs) (run step us) (step x s) (λ t. run_reordered us vs t r more)
  run_reordered xs ys s (crossed x y {xs = rest}) (pairs (and i is) more) =
      sym (then_then (step x) (run step rest) (step y s)) ∙ ap (option_and_then (run step rest)) (sym (exchange (step x) (step y) s i)) ∙ then_then (step y) (run step rest) (step x s)
  run_reordered xs ys s (joined {ys = ms} p q) all = run_reordered ms ys s q (pairwise_reordered xs ms p all) ∙ run_reordered xs ms s p all
