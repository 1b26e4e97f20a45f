-- Lists by their elements, and tests of their first elements.
use Rattle.std.proofs.Common.{◌≡◌, ◌⊎◌, inl, inr, ℕ, zero, suc, ◌<◌, ◌≤◌, ◌+◌, Bool, true, false, ◌||◌, List, [], ◌∷◌, ◌++◌, length, map, take, set, Some, slice_get, Contains, refl, sym, ap, ◌∙◌, subst, add-one, arith, Bor, get_or}
use Rattle.std.specs.List.{list_any}
use Rattle.std.proofs.lemmas.List.Elements.{Contains-append_left, Contains-append_right}
use Rattle.std.proofs.lemmas.Option.{slice_get-map, slice_get-get_or}
use Rattle.std.specs.Option.{option_map}
use Rattle.dj_calculus.proofs.Members.{either, in_front_or_behind, no_element, first_or_other}

-- ---- tests of the first elements

abbrev pub Earlier : {X : Type 0} → (X → Bool) → List X → ℕ → Type 0
Earlier {X} p xs k = (j : ℕ) × (j < k) × ((x : X) × (slice_get xs j ≡ Some x) × (p x ≡ true))

pub earlier : {X : Type 0} (p : X → Bool) (xs : List X) (k : ℕ) → list_any p (take k xs) ≡ true → Earlier p xs k
earlier p xs zero e = absurd (cc)
earlier p [] (suc k) e = absurd (cc)
earlier {X} p (x ∷ xs) (suc k) e = first_case (p x) refl (earlier p xs k) e
  where
    first_case : (b : Bool) → p x ≡ b → (list_any p (take k xs) ≡ true → Earlier p xs k) → (b || list_any p (take k xs)) ≡ true → Earlier p (x ∷ xs) (suc k)
    first_case true is later e = (0, omega arith, (x, refl, is))
    first_case false is later e = let it = later e in (suc it.0, omega (arith, it.1), it.2)

pub or_true : (a b : Bool) → b ≡ true → (a || b) ≡ true
or_true true b e = refl
or_true false b e = e

pub any_at : {X : Type 0} (p : X → Bool) (xs : List X) (n : ℕ) (x : X) → slice_get xs n ≡ Some x → p x ≡ true → list_any p xs ≡ true
any_at p [] n x at e = absurd (cc)
any_at p (y ∷ xs) zero x at e = let same : y ≡ x = cc in ap (λ z. p z || list_any p xs) same ∙ ap (λ b. b || list_any p xs) e
any_at p (y ∷ xs) (suc n) x at e = or_true (p y) (list_any p xs) (any_at p xs n x at e)

pub any_before : {X : Type 0} (p : X → Bool) (xs : List X) (k j : ℕ) (x : X) → j < k → slice_get xs j ≡ Some x → p x ≡ true → list_any p (take k xs) ≡ true
any_before p xs zero j x low at e = absurd (omega arith)
any_before p [] (suc k) j x low at e = absurd (cc)
any_before p (y ∷ xs) (suc k) zero x low at e = let same : y ≡ x = cc in ap (λ z. p z || list_any p (take k xs)) same ∙ ap (λ b. b || list_any p (take k xs)) e
any_before p (y ∷ xs) (suc k) (suc j) x low at e = or_true (p y) (list_any p (take k xs)) (any_before p xs k j x (omega arith) at e)

pub any_more : {X : Type 0} (p : X → Bool) (xs : List X) (k : ℕ) (x : X) → slice_get xs k ≡ Some x → list_any p (take (suc k) xs) ≡ (list_any p (take k xs) || p x)
any_more p [] k x at = absurd (cc)
any_more p (y ∷ xs) zero x at = let same : y ≡ x = cc in ap (λ z. p z || false) same ∙ or_false (p x)
  where
    or_false : (b : Bool) → (b || false) ≡ b
    or_false true = refl
    or_false false = refl
any_more p (y ∷ xs) (suc k) x at = ap (λ b. p y || b) (any_more p xs k x at) ∙ joined (p y) (list_any p (take k xs)) (p x)
  where
    joined : (a b c : Bool) → (a || (b || c)) ≡ ((a || b) || c)
    joined true b c = refl
    joined false b c = refl

pub not_below : (k other : ℕ) → (other < k → ⊥) → k ≤ other
not_below k other f = omega (arith, f)

pub or_same : (a b : Bool) → b ≡ false → (a || b) ≡ a
or_same true b e = refl
or_same false b e = e

-- ---- lists by their elements

pub get_set_same : {X : Type 0} (xs : List X) (n : ℕ) (x : X) → n < length xs → slice_get (set xs n x) n ≡ Some x
get_set_same [] n x low = absurd (omega arith)
get_set_same (y ∷ xs) zero x low = refl
get_set_same (y ∷ xs) (suc n) x low = get_set_same xs n x (omega arith)

pub get_set_other : {X : Type 0} (xs : List X) (n i : ℕ) (x : X) → (i ≡ n → ⊥) → slice_get (set xs n x) i ≡ slice_get xs i
get_set_other [] n i x ne = refl
get_set_other (y ∷ xs) zero zero x ne = absurd (ne refl)
get_set_other (y ∷ xs) zero (suc i) x ne = refl
get_set_other (y ∷ xs) (suc n) zero x ne = refl
get_set_other (y ∷ xs) (suc n) (suc i) x ne = get_set_other xs n i x (λ e. ne (ap suc e))

pub mapped_by : {X Y : Type 0} (f : X → Y) (xs : List X) (ys : List Y) → length ys ≡ length xs → ((i : ℕ) (x : X) → slice_get xs i ≡ Some x → slice_get ys i ≡ Some (f x)) → ys ≡ map f xs
mapped_by f [] [] e each = refl
mapped_by f [] (y ∷ ys) e each = absurd (omega arith)
mapped_by f (x ∷ xs) [] e each = absurd (omega arith)
mapped_by f (x ∷ xs) (y ∷ ys) e each =
    let here : Some y ≡ Some (f x) = each 0 x refl in
    let same : y ≡ f x = cc in
    ap (λ z. z ∷ ys) same ∙ ap (λ zs. f x ∷ zs) (mapped_by f xs ys (omega arith) (λ i z at. each (suc i) z at))

-- ---- numbers

pub eq_or_not : (i m : ℕ) → (i ≡ m) ⊎ (i ≡ m → ⊥)
eq_or_not zero zero = inl refl
eq_or_not zero (suc m) = inr (λ e. omega (arith, e))
eq_or_not (suc i) zero = inr (λ e. omega (arith, e))
eq_or_not (suc i) (suc m) = either (eq_or_not i m) (λ e. inl (ap suc e)) (λ ne. inr (λ e. ne (omega (arith, e))))

-- ---- one element more

pub take_one_more : {X : Type 0} (xs : List X) (k : ℕ) (x : X) → slice_get xs k ≡ Some x → take (k + 1) xs ≡ take k xs ++ x ∷ []
take_one_more {X} xs k x at = ap (λ n. take n xs) (add-one k) ∙ more xs k at
  where
    more : (ys : List X) (n : ℕ) → slice_get ys n ≡ Some x → take (suc n) ys ≡ take n ys ++ x ∷ []
    more [] n e = absurd (cc)
    more (y ∷ ys) zero e = let same : y ≡ x = cc in ap (λ z. z ∷ []) same
    more (y ∷ ys) (suc n) e = ap (λ zs. y ∷ zs) (more ys n e)

pub within_more : {X : Type 0} (xs : List X) (k : ℕ) (x y : X) → slice_get xs k ≡ Some x → Contains (take (k + 1) xs) y → Contains (take k xs) y ⊎ (x ≡ y)
within_more {X} xs k x y at has =
    let P : List X → Type 0 = λ zs. Contains zs y in
    either (in_front_or_behind (take k xs) (x ∷ []) y (subst P (take_one_more xs k x at) has)) (λ front. inl front)
    (λ last. either (first_or_other x y [] last) (λ e. inr e) (λ none. no_element y none))

pub within_last : {X : Type 0} (xs : List X) (k : ℕ) (x : X) → slice_get xs k ≡ Some x → Contains (take (k + 1) xs) x
within_last {X} xs k x at = let P : List X → Type 0 = λ zs. Contains zs x in subst P (sym (take_one_more xs k x at)) (Contains-append_right (take k xs) (x ∷ []) x (0, omega arith, refl))

pub within_front : {X : Type 0} (xs : List X) (k : ℕ) (x y : X) → slice_get xs k ≡ Some x → Contains (take k xs) y → Contains (take (k + 1) xs) y
within_front {X} xs k x y at has = let P : List X → Type 0 = λ zs. Contains zs y in subst P (sym (take_one_more xs k x at)) (Contains-append_left (take k xs) (x ∷ []) y has)

-- ---- texts behind references

pub piece_at : (pieces : List (Bor (List ℕ))) (k : ℕ) (d : Bor (List ℕ)) → k < length pieces → slice_get (map (λ p. p.now) pieces) k ≡ Some (get_or pieces k d).now
piece_at pieces k d low = slice_get-map (λ p. p.now) pieces k ∙ ap (option_map (λ p. p.now)) (slice_get-get_or pieces k d low)
