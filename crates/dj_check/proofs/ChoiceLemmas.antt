-- Each configuration with one value per feature has a number.
use Rattle.std.proofs.Common.{◌≡◌, ◌⊎◌, ◌↔◌, ℕ, zero, suc, ◌+◌, ◌*◌, ◌/◌, ◌%◌, ◌^◌, ◌-◌, ◌<◌, ◌≤◌, ◌==◌, Bool, true, false, [], ◌∷◌, ◌++◌, length, refl, sym, ap, ◌∙◌, subst, arith}
use Rattle.std.specs.Prelude.{IfOk}
use Rattle.std.specs.declared.result.Result.{Result}
use Rattle.std.specs.declared.result.Result.TheVariants.{Ok, Err}
use mathlib.Core.List.{append_assoc, append-nil}
use Rattle.std.proofs.Math.Nat.{pow-suc}
use Rattle.std.proofs.lemmas.Nat.{mod_low, shr_high}
use Rattle.dj_tree.specs.Trees.{Source}
use Rattle.dj_calculus.specs.Configurations.{Configuration, chosen, IsValid}
use Rattle.dj_calculus.specs.Formulas.{value}
use Rattle.dj_calculus.specs.Good.{IsGood, IsVoid}
use Rattle.dj_calculus.proofs.Members.{either}
use Rattle.dj_formula.specs.declared.formula.Formula.{Formula}
use Rattle.dj_formula.specs.Value.{HasValue}
use Rattle.dj_line.proofs.ConfigWords.{one_value}
use Rattle.dj_check.specs.Choices.{choice_of}
use Rattle.dj_check.specs.Small.{IsGoodWhereValid}

abbrev digit : Bool → ℕ
digit true = 1
digit false = 0

digit_low : (b : Bool) → digit b < 2
digit_low true = omega arith
digit_low false = omega arith

digit_is : (b : Bool) → (digit b == 1) ≡ b
digit_is true = refl
digit_is false = refl

abbrev number_of : Configuration → ℕ
number_of [] = 0
number_of (b ∷ c) = number_of c * 2 + digit b

-- ---- it is the choice of its number

chosen_digit : (b : Bool) (m : ℕ) → ((m * 2 + digit b) % 2 == 1) ≡ b
chosen_digit b m = ap (λ n. n == 1) (mod_low m 1 (digit b) (digit_low b)) ∙ digit_is b

rest_digits : (b : Bool) (m : ℕ) → (m * 2 + digit b) / 2 ≡ m
rest_digits b m = shr_high m 1 (digit b) (digit_low b)

choice_of_number : (c : Configuration) → choice_of (length c) (number_of c) ≡ c
choice_of_number [] = refl
choice_of_number (b ∷ c) =
    let rest : choice_of (length c) ((number_of c * 2 + digit b) / 2) ≡ c = ap (choice_of (length c)) (rest_digits b (number_of c)) ∙ choice_of_number c in
    ap (λ (x : Bool). x ∷ choice_of (length c) ((number_of c * 2 + digit b) / 2)) (chosen_digit b (number_of c)) ∙ ap (λ (xs : Configuration). b ∷ xs) rest

twice : (n : ℕ) → 2 ^ suc n ≡ 2 ^ n * 2
twice n = pow-suc 2 n

number_low : (c : Configuration) → number_of c < 2 ^ length c
number_low [] = omega arith
number_low (b ∷ c) = rw (twice (length c)) (omega (arith, number_low c, digit_low b))

pub length_choice : (n number : ℕ) → length (choice_of n number) ≡ n
length_choice zero number = refl
length_choice (suc n) number = ap suc (length_choice n (number / 2))

-- what holds of each choice holds of each configuration with one value per feature
pub each_choice : (P : Configuration → Type 0) (n : ℕ) → ((number : ℕ) → number < 2 ^ n → P (choice_of n number)) → (c : Configuration) → length c ≡ n → P c
each_choice P n each c is =
    let low : number_of c < 2 ^ n = subst (λ m. number_of c < 2 ^ m) is (number_low c) in
    let same : choice_of n (number_of c) ≡ c = subst (λ m. choice_of m (number_of c) ≡ c) is (choice_of_number c) in
    subst P same (each (number_of c) low)

-- ---- a line whose choices were tried

pub all_good : (source : Source) (n : ℕ) → 2 ^ length source.features ≤ n → ((number : ℕ) → number < n → IsGoodWhereValid source (choice_of (length source.features) number)) → IsGood source
all_good source n enough each c valid = each_choice (IsGoodWhereValid source) (length source.features) (λ number low. each number (omega (arith, low, enough))) c valid.each valid

pub all_void : (source : Source) (n : ℕ) → 2 ^ length source.features ≤ n → ((number : ℕ) → number < n → ¬ (IsValid source (choice_of (length source.features) number))) → IsVoid source
all_void source n enough each c valid = each_choice (λ d. ¬ (IsValid source d)) (length source.features) (λ number low. each number (omega (arith, low, enough))) c valid.each valid

-- ---- one choice more

is_new : (k n : ℕ) → k < n + 1 → (k < n) ⊎ (k ≡ n)
is_new k n low = grind arith

pub one_more : (P : ℕ → Type 0) (n : ℕ) → ((k : ℕ) → k < n → P k) → P n → (k : ℕ) → k < n + 1 → P k
one_more P n before here k low = either (is_new k n low) (before k) (λ same. subst P (sym same) here)

-- ---- validity

-- the value of the formula tells it
pub tells_valid : {E : Type 0} (source : Source) (formula : Formula) (c d : Configuration) (result : Result Bool E) → length c ≡ length source.features → c ≡ d
    → HasValue formula c (value (chosen source c) source.valid) → IfOk result (HasValue formula d) → IfOk result (λ b. (b ≡ true) ↔ IsValid source c)
tells_valid source formula c d (Ok b) each same has found =
    let is : value (chosen source c) source.valid ≡ b = one_value formula c d _ b same has found in
    (λ on. record { each = each; holds = is ∙ on }, λ valid. sym is ∙ valid.holds)
tells_valid source formula c d (Err e) each same has found = tt

-- ---- digits that are still to be read

rest_of : (n i : ℕ) → i < n → n - i ≡ suc (n - (i + 1))
rest_of n i low = omega arith

one_digit : (n i number : ℕ) → i < n → choice_of (n - i) number ≡ (number % 2 == 1) ∷ choice_of (n - (i + 1)) (number / 2)
one_digit n i number low = ap (λ m. choice_of m number) (rest_of n i low)

pub next_digit : (n i rest : ℕ) (before after whole : Configuration) → i < n → before ++ choice_of (n - i) rest ≡ whole → after ≡ before ++ (rest % 2 == 1) ∷ []
    → after ++ choice_of (n - (i + 1)) (rest / 2) ≡ whole
next_digit n i rest before after whole low all pushed =
    ap (λ (xs : Configuration). xs ++ choice_of (n - (i + 1)) (rest / 2)) pushed ∙ append_assoc before ((rest % 2 == 1) ∷ []) (choice_of (n - (i + 1)) (rest / 2))
    ∙ ap (λ (xs : Configuration). before ++ xs) (sym (one_digit n i rest low)) ∙ all

no_digits : (n i number : ℕ) → n ≤ i → choice_of (n - i) number ≡ []
no_digits n i number past = let none : n - i ≡ zero = omega arith in ap (λ m. choice_of m number) none

pub all_digits : (n i rest : ℕ) (made whole : Configuration) → n ≤ i → made ++ choice_of (n - i) rest ≡ whole → made ≡ whole
all_digits n i rest made whole past all = sym (append-nil made) ∙ ap (λ (xs : Configuration). made ++ xs) (sym (no_digits n i rest past)) ∙ all
