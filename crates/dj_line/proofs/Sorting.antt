-- Numbers in order are told by how often each stands among them, so two sorts of the same numbers agree.
use Rattle.std.proofs.Common.{◌≡◌, ◌≤◌, ◌<◌, ◌+◌, ℕ, suc, Bool, true, false, cond, List, [], ◌∷◌, length, get_or, nat_eq, nat_cmp, refl, sym, ap, subst, ◌∙◌, arith, eq-eqb}
use Rattle.std.specs.Prelude.{sum_by, MatchBool}
use Rattle.std.specs.Bool.{Decides}
use Rattle.std.specs.List.Sorted.{IsPermutation, IsNonDecreasing, IsSorted}
use Rattle.std.proofs.lemmas.Bool.{eqb-true}
use Rattle.std.proofs.lemmas.List.Sorted.{sum_by-IsPermutation, IsPermutation-trans, IsPermutation-sym, IsNonDecreasingBy-from_sort}
use Rattle.std.proofs.lemmas.List.Sums.{sum_by-cons}

abbrev one_at : ℕ → ℕ → ℕ
one_at v x = cond (nat_eq v x) 1 0

-- how often v stands among the numbers
abbrev times : ℕ → List ℕ → ℕ
times v [] = 0
times v (x ∷ xs) = one_at v x + times v xs

times-sum : (v : ℕ) (xs : List ℕ) → times v xs ≡ sum_by (one_at v) xs
times-sum v [] = refl
times-sum v (x ∷ xs) = ap (λ n. one_at v x + n) (times-sum v xs) ∙ sym (sum_by-cons (one_at v) x xs)

same_times : (xs ys : List ℕ) → IsPermutation xs ys → (v : ℕ) → times v xs ≡ times v ys
same_times xs ys permuted v = times-sum v xs ∙ sym (sum_by-IsPermutation (one_at v) xs ys permuted) ∙ sym (times-sum v ys)

once : (v : ℕ) → one_at v v ≡ 1
once v = ap (λ (b : Bool). let n : ℕ = cond b 1 0 in n) (eq-eqb v v refl)

never : (v x : ℕ) → v < x → one_at v x ≡ 0
never v x below = by_test (nat_eq v x) refl
  where
    count : Bool → ℕ
    count b = cond b 1 0

    by_test : (b : Bool) → nat_eq v x ≡ b → count b ≡ 0
    by_test true is = let same : v ≡ x = eqb-true v x is in absurd (omega arith)
    by_test false is = refl

none_below : (v : ℕ) (xs : List ℕ) → ((j d : ℕ) → j < length xs → v < get_or xs j d) → times v xs ≡ 0
none_below v [] above = refl
none_below v (x ∷ xs) above = omega (arith, never v x (above 0 0 (omega arith)), none_below v xs (λ j d l. above (suc j) d (omega arith)))

behind : (x : ℕ) (xs : List ℕ) → IsNonDecreasing (x ∷ xs) → IsNonDecreasing xs
behind x xs rises i j d le lt = rises (suc i) (suc j) d (omega arith) (omega arith)

-- a number below the first of numbers in order isn't among them
too_small : (v y : ℕ) (ys : List ℕ) → IsNonDecreasing (y ∷ ys) → v < y → times v (y ∷ ys) ≡ 0
too_small v y ys rises below = none_below v (y ∷ ys) (λ j d l. let least : y ≤ get_or (y ∷ ys) j d = rises 0 j d (omega arith) l in omega arith)

one_order : (xs ys : List ℕ) → IsNonDecreasing xs → IsNonDecreasing ys → ((v : ℕ) → times v xs ≡ times v ys) → xs ≡ ys
one_order [] [] first second same = refl
one_order [] (y ∷ ys) first second same = absurd (let e = same y in let o = once y in omega arith)
one_order (x ∷ xs) [] first second same = absurd (let e = same x in let o = once x in omega arith)
one_order (x ∷ xs) (y ∷ ys) first second same =
    let not_below : x < y → ⊥ = λ l. let e = same x in let o = once x in let n = too_small x y ys second l in omega arith in
    let not_above : y < x → ⊥ = λ l. let e = same y in let o = once y in let n = too_small y x xs first l in omega arith in
    let head : x ≡ y = omega (arith, not_below, not_above) in
    let rest : xs ≡ ys = one_order xs ys (behind x xs first) (behind y ys second) (λ v. let e = same v in let h : one_at v x ≡ one_at v y = ap (one_at v) head in omega arith) in
    ap (λ z. z ∷ xs) head ∙ ap (λ zs. y ∷ zs) rest

-- sorts of two lists agree exactly where one list is the other in some order
same_sorts : (xs ys us vs : List ℕ) → IsPermutation xs us → IsPermutation ys vs → IsNonDecreasing us → IsNonDecreasing vs → IsPermutation xs ys → us ≡ vs
same_sorts xs ys us vs first second rises_us rises_vs permuted =
    one_order us vs rises_us rises_vs
    (same_times us vs (IsPermutation-trans us xs vs (IsPermutation-sym xs us first) (IsPermutation-trans xs ys vs permuted second)))

same_numbers : (xs ys us vs : List ℕ) → IsPermutation xs us → IsPermutation ys vs → us ≡ vs → IsPermutation xs ys
same_numbers xs ys us vs first second same =
    IsPermutation-trans xs us ys first (let P : List ℕ → Type 0 = λ zs. IsPermutation zs ys in subst P (sym same) (IsPermutation-sym ys vs second))

pub sorts_agree : (xs ys us vs : List ℕ) (b : Bool) → IsPermutation xs us → IsPermutation ys vs → IsSorted nat_cmp us → IsSorted nat_cmp vs → Decides b (us ≡ vs) → MatchBool b (IsPermutation xs ys) (¬ (IsPermutation xs ys))
sorts_agree xs ys us vs true first second rises_us rises_vs decides = same_numbers xs ys us vs first second (decides.0 refl)
sorts_agree xs ys us vs false first second rises_us rises_vs decides =
    λ permuted. let e = decides.1 (same_sorts xs ys us vs first second (IsNonDecreasingBy-from_sort (λ n. n) us rises_us) (IsNonDecreasingBy-from_sort (λ n. n) vs rises_vs) permuted) in cc
