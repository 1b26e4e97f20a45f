-- What holds of each entry and those before it, in lists that grow and lose their ends.
use Rattle.std.proofs.Common.{◌≡◌, ℕ, zero, suc, ◌≤◌, ◌<◌, ◌+◌, List, [], ◌∷◌, ◌++◌, Some, take, length, slice_get, All, refl, sym, subst, ap, ◌∙◌, arith, ◌⊎◌, inl, inr}
use Rattle.std.proofs.lemmas.Bool.{cases_lt}
use Rattle.std.proofs.lemmas.List.{take-append-le, take-take, take_at}
use Rattle.std.proofs.lemmas.List.Elements.{All-head, All-tail}
use Rattle.std.proofs.lemmas.Option.{same_Some, none-some}
use Rattle.sat_solver.specs.declared.entry.Entry.{Entry}
use Rattle.sat_solver.specs.Entries.{AllAlong}

-- what holds of each of a list holds of the one at a place
pub All-at : {X : Type 0} (P : X → Type 0) (xs : List X) (place : ℕ) (x : X) → All P xs → slice_get xs place ≡ Some x → P x
All-at P [] place x all e = cc
All-at P (y ∷ xs) zero x all e = subst P (same_Some y x e) (All-head P y xs all)
All-at P (y ∷ xs) (suc place) x all e = All-at P xs place x (All-tail P y xs all) e

-- where an element stands in a list with one more
pub at_push : {X : Type 0} (xs : List X) (y : X) (k : ℕ) (x : X) → slice_get (xs ++ y ∷ []) k ≡ Some x → ((k < length xs) × (slice_get xs k ≡ Some x)) ⊎ ((k ≡ length xs) × (y ≡ x))
at_push [] y zero x e = inr (refl, same_Some y x e)
at_push [] y (suc k) x e = absurd (none-some x e)
at_push (z ∷ zs) y zero x e = inl (omega arith, e)
at_push (z ∷ zs) y (suc k) x e = elim (at_push zs y k x e) [ inl h ↦ inl (omega (arith, h.0), h.1) | inr h ↦ inr (ap suc h.0, h.1) ]

pub at_front : {X : Type 0} (xs ys : List X) (k : ℕ) (x : X) → slice_get xs k ≡ Some x → slice_get (xs ++ ys) k ≡ Some x
at_front [] ys k x e = absurd (none-some x e)
at_front (z ∷ zs) ys zero x e = e
at_front (z ∷ zs) ys (suc k) x e = at_front zs ys k x e

pub at_first : {X : Type 0} (xs ys : List X) (k : ℕ) (x : X) → k < length xs → slice_get (xs ++ ys) k ≡ Some x → slice_get xs k ≡ Some x
at_first [] ys k x h e = absurd (omega arith)
at_first (z ∷ zs) ys zero x h e = e
at_first (z ∷ zs) ys (suc k) x h e = at_first zs ys k x (omega arith) e

pub at_end : {X : Type 0} (xs : List X) (y : X) → slice_get (xs ++ y ∷ []) (length xs) ≡ Some y
at_end [] y = refl
at_end (z ∷ zs) y = at_end zs y

pub at_take : {X : Type 0} (n : ℕ) (xs : List X) (k : ℕ) (x : X) → slice_get (take n xs) k ≡ Some x → (k < n) × (slice_get xs k ≡ Some x)
at_take zero xs k x e = absurd (none-some x e)
at_take (suc n) [] k x e = absurd (none-some x e)
at_take (suc n) (z ∷ zs) zero x e = (omega arith, e)
at_take (suc n) (z ∷ zs) (suc k) x e = let rest = at_take n zs k x e in (omega (arith, rest.0), rest.1)

pub in_take : {X : Type 0} (n : ℕ) (xs : List X) (k : ℕ) (x : X) → k < n → slice_get xs k ≡ Some x → slice_get (take n xs) k ≡ Some x
in_take zero xs k x h e = absurd (omega arith)
in_take (suc n) [] k x h e = e
in_take (suc n) (z ∷ zs) zero x h e = e
in_take (suc n) (z ∷ zs) (suc k) x h e = in_take n zs k x (omega arith) e

-- one element more of a list's beginning
pub take_next : {X : Type 0} (xs : List X) (k : ℕ) (x : X) → slice_get xs k ≡ Some x → take (suc k) xs ≡ take k xs ++ x ∷ []
take_next [] k x e = absurd (none-some x e)
take_next (z ∷ zs) zero x e = ap (λ y. y ∷ []) (same_Some z x e)
take_next (z ∷ zs) (suc k) x e = ap (λ l. z ∷ l) (take_next zs k x e)

module _ (P : List Entry → Entry → Type 0) where
  pub Along-push : (xs : List Entry) (y : Entry) → AllAlong P xs → P xs y → AllAlong P (xs ++ y ∷ [])
  Along-push xs y all here = λ k x e. by k x (at_push xs y k x e)
    where
      by : (k : ℕ) (x : Entry) → ((k < length xs) × (slice_get xs k ≡ Some x)) ⊎ ((k ≡ length xs) × (y ≡ x)) → P (take k (xs ++ y ∷ [])) x
      by k x (inl h) = subst (λ l. P l x) (sym (take-append-le k xs (y ∷ []) (omega (arith, h.0)))) (all k x h.1)
      by k x (inr h) = subst (λ l. P l x) (sym (take_at xs (y ∷ []) k (sym h.0))) (subst (P xs) h.1 here)

  pub Along-take : (n : ℕ) (xs : List Entry) → AllAlong P xs → AllAlong P (take n xs)
  Along-take n xs all = λ k x e.
      let h = at_take n xs k x e in
      subst (λ l. P l x) (sym (take-take k n xs (omega (arith, h.0)))) (all k x h.1)

-- one element more
pub below_next : {X : Type 0} (P : X → Type 0) (xs : List X) (n : ℕ) (here : X) → ((k : ℕ) (x : X) → k < n → slice_get xs k ≡ Some x → P x) → slice_get xs n ≡ Some here → P here → (k : ℕ) (x : X) → k < n + 1 → slice_get xs k ≡ Some x → P x
below_next P xs n here below at is k x h e = by (cases_lt k n)
  where
    by : (k < n) ⊎ (n ≤ k) → P x
    by (inl before) = below k x before e
    by (inr past) = subst P (same_Some here x (sym at ∙ ap (slice_get xs) (omega arith) ∙ e)) is
