-- Elements with different numbers are as many as their numbers.
use Rattle.std.proofs.Common.{◌≡◌, ◌⊎◌, inl, inr, ℕ, zero, suc, ◌+◌, ◌<◌, ◌≤◌, List, [], ◌∷◌, length, Contains, Some, slice_get, refl, sym, ap, ◌∙◌, subst, arith}
use Rattle.std.proofs.lemmas.Option.{slice_get_within, get_or_from_slice_get, slice_get-get_or}
use Rattle.dj_calculus.proofs.Members.{no_element, first_or_other, among_others, either}

-- a list without one of its elements
abbrev Rest : {X : Type 0} → List X → X → Type 0
Rest {X} xs x = (ys : List X) × (length xs ≡ suc (length ys)) × ((y : X) → Contains xs y → (x ≡ y) ⊎ Contains ys y)

rest_of : {X : Type 0} (xs : List X) (x : X) → Contains xs x → Rest xs x
rest_of [] x within = no_element x within
rest_of (z ∷ xs) x within =
    either (first_or_other z x xs within) (λ same. (xs, refl, λ y has. either (first_or_other z y xs has) (λ e. inl (sym same ∙ e)) inr))
    (λ later. let r = rest_of xs x later in (
      z ∷ r.0,
      ap suc r.1,
      λ y has. either (first_or_other z y xs has) (λ e. inr (0, omega arith, e)) (λ more. either (r.2 y more) inl (λ there. inr (among_others z y r.0 there))),
    ))

-- elements with different numbers below n: there are n at least
pub as_many : {X : Type 0} (n : ℕ) (xs : List X) (Has : ℕ → X → Type 0) → ((i : ℕ) → i < n → (x : X) × Has i x × Contains xs x)
    → ((i j : ℕ) (x : X) → Has i x → Has j x → i ≡ j) → n ≤ length xs
as_many zero xs Has each once = omega arith
as_many (suc n) xs Has each once =
    let last = each n (omega arith) in
    let rest = rest_of xs last.0 last.2 in
    let fewer : n ≤ length rest.0 =
    as_many n rest.0 Has (λ i low. let it = each i (omega arith) in
    (it.0, it.1, either (rest.2 it.0 it.2) (λ same. let equal : n ≡ i = once n i it.0 (subst (Has n) same last.1) it.1 in absurd (omega (arith, equal, low))) (λ there. there))) once in
    omega (arith, rest.1, fewer)

pub got_within : {X : Type 0} (xs : List X) (k : ℕ) (x : X) → slice_get xs k ≡ Some x → Contains xs x
got_within xs k x e = (k, slice_get_within xs k x e, get_or_from_slice_get xs k x x e)

-- the element at a number
pub there_is : {X : Type 0} (xs : List X) (k : ℕ) → k < length xs → (x : X) × (slice_get xs k ≡ Some x)
there_is [] k low = absurd (omega arith)
there_is (x ∷ xs) zero low = (x, refl)
there_is (x ∷ xs) (suc k) low = there_is xs k (omega arith)

-- the number of an element
pub number_in : {X : Type 0} (xs : List X) (x : X) → Contains xs x → (k : ℕ) × (slice_get xs k ≡ Some x)
number_in xs x has = (has.0, slice_get-get_or xs has.0 x has.1 ∙ ap Some has.2)

-- a number below the next is below this one, or this one
pub earlier_or_last : (n i : ℕ) → n < i + 1 → (n < i) ⊎ (n ≡ i)
earlier_or_last n i low = grind arith
