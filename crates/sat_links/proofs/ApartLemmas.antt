-- Lists without repetition.
use Rattle.std.proofs.Common.{◌≡◌, ◌≢◌, ℕ, Bool, true, false, not, List, [], ◌∷◌, ◌++◌, filter, All, eqb, inl, inr, refl, sym, ap, ◌∙◌}
use Rattle.std.specs.List.{AllByRecursion, IsDistinct}
use Rattle.std.proofs.lemmas.Bool.{eq-eqb, ne_eqb}
use Rattle.std.proofs.lemmas.Bool.Decides.{eqb_tells}
use Rattle.std.proofs.lemmas.List.Elements.{All-nil, All-cons, All-head, All-tail}
use Rattle.std.proofs.lemmas.Map.Keys.{IsDistinct-head, IsDistinct-tail}

-- the element isn't in the list
abbrev pub Misses : {X : Type 0} → X → List X → Type 0
Misses x [] = Unit {0}
Misses x (y ∷ ys) = (x ≢ y) × Misses x ys

-- no element is in the list twice
abbrev pub Apart : {X : Type 0} → List X → Type 0
Apart [] = Unit {0}
Apart (x ∷ xs) = Misses x xs × Apart xs

pub Misses-parts : {X : Type 0} (a : X) (xs ys : List X) → Misses a (xs ++ ys) → Misses a xs × Misses a ys
Misses-parts a [] ys m = (tt, m)
Misses-parts a (x ∷ xs) ys m = let parts = Misses-parts a xs ys m.1 in ((m.0, parts.0), parts.1)

pub Misses-append : {X : Type 0} (a : X) (xs ys : List X) → Misses a xs → Misses a ys → Misses a (xs ++ ys)
Misses-append a [] ys m k = k
Misses-append a (x ∷ xs) ys m k = (m.0, Misses-append a xs ys m.1 k)

pub Apart-left : {X : Type 0} (xs ys : List X) → Apart (xs ++ ys) → Apart xs
Apart-left [] ys apart = tt
Apart-left (x ∷ xs) ys apart = ((Misses-parts x xs ys apart.0).0, Apart-left xs ys apart.1)

pub Apart-right : {X : Type 0} (xs ys : List X) → Apart (xs ++ ys) → Apart ys
Apart-right [] ys apart = apart
Apart-right (x ∷ xs) ys apart = Apart-right xs ys apart.1

-- of a list with an element in its middle
pub Apart-middle : {X : Type 0} (xs ys : List X) (v : X) → Apart (xs ++ v ∷ ys) → Misses v xs × Misses v ys × Apart (xs ++ ys)
Apart-middle [] ys v apart = (tt, apart.0, apart.1)
Apart-middle (x ∷ xs) ys v apart =
    let rest = Apart-middle xs ys v apart.1 in
    let parts = Misses-parts x xs (v ∷ ys) apart.0 in
    ((λ e. parts.1.0 (sym e), rest.0), rest.1, (Misses-append x xs ys parts.0 parts.1.1, rest.2))

misses_from_keys : {X : Type 0} (e : X → X → Bool) (tells : (a b : X) → e a b ≡ false → a ≢ b) (x : X) (xs : List X) → AllByRecursion (λ y. e x y ≡ false) xs → Misses x xs
misses_from_keys e tells x [] apart = tt
misses_from_keys e tells x (y ∷ ys) apart = (tells x y apart.0, misses_from_keys e tells x ys apart.1)

pub apart_from_distinct : {X : Type 0} (e : X → X → Bool) (tells : (a b : X) → e a b ≡ false → a ≢ b) (xs : List X) → IsDistinct e xs → Apart xs
apart_from_distinct e tells [] distinct = tt
apart_from_distinct e tells (x ∷ xs) distinct = (misses_from_keys e tells x xs (IsDistinct-head e x xs distinct), apart_from_distinct e tells xs (IsDistinct-tail e x xs distinct))

keys_from_misses : {X : Type 0} (e : X → X → Bool) (tells : (a b : X) → a ≢ b → e a b ≡ false) (x : X) (xs : List X) → Misses x xs → AllByRecursion (λ y. e x y ≡ false) xs
keys_from_misses e tells x [] misses = tt
keys_from_misses e tells x (y ∷ ys) misses = (tells x y misses.0, keys_from_misses e tells x ys misses.1)

pub distinct_from_apart : {X : Type 0} (e : X → X → Bool) (tells : (a b : X) → a ≢ b → e a b ≡ false) (xs : List X) → Apart xs → IsDistinct e xs
unfolding IsDistinct
distinct_from_apart e tells [] apart = tt
distinct_from_apart e tells (x ∷ xs) apart = (keys_from_misses e tells x xs apart.0, distinct_from_apart e tells xs apart.1)

-- what is left of a list without an element
without_none : {X : Type 0} (test : X → Bool) (v : X) (others : (x : X) → v ≢ x → test x ≡ false) (xs : List X) → Misses v xs → filter (λ x. not (test x)) xs ≡ xs
without_none test v others [] misses = refl
without_none test v others (x ∷ xs) misses = rw (others x misses.0) (ap (λ l. x ∷ l) (without_none test v others xs misses.1))

pub without_middle : {X : Type 0} (test : X → Bool) (v : X) (here : test v ≡ true) (others : (x : X) → v ≢ x → test x ≡ false) (xs ys : List X) → Misses v xs → Misses v ys
    → filter (λ x. not (test x)) (xs ++ v ∷ ys) ≡ xs ++ ys
without_middle test v here others [] ys misses after = rw here (without_none test v others ys after)
without_middle test v here others (x ∷ xs) ys misses after = rw (others x misses.0) (ap (λ l. x ∷ l) (without_middle test v here others xs ys misses.1 after))

-- what holds of all elements of two lists joined
pub All-parts : {X : Type 0} (P : X → Type 0) (xs ys : List X) → All P (xs ++ ys) → All P xs × All P ys
All-parts P [] ys all = (All-nil P, all)
All-parts P (x ∷ xs) ys all =
    let parts = All-parts P xs ys (All-tail P x (xs ++ ys) all) in
    (All-cons P x xs (All-head P x (xs ++ ys) all) parts.0, parts.1)

pub eqb_flips : (x y : ℕ) → eqb x y ≡ eqb y x
eqb_flips x y = elim (eqb_tells x y) [ inl (p, e) ↦ p ∙ sym (eq-eqb y x (sym e)) | inr (p, ne) ↦ p ∙ sym (ne_eqb y x (λ e. ne (sym e))) ]
