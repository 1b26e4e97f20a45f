-- The names of versions have `$`, and tell the method and the class where those have none.
use Rattle.std.proofs.Common.{◌≡◌, ℕ, ◌==◌, Bool, true, false, ◌||◌, [], ◌∷◌, ◌++◌, codes, refl, sym, ap, ◌∙◌}
use Rattle.std.specs.Fmt.{decimal}
use Rattle.std.proofs.lemmas.Bool.{false≢true}
use Rattle.dj_names.specs.Texts.{Text}
use Rattle.dj_calculus.specs.FlatTables.{version_name, has_dollar}

or_after : (a b : Bool) → b ≡ true → (a || b) ≡ true
or_after true b e = refl
or_after false b e = e

or_none : (a b : Bool) → (a || b) ≡ false → b ≡ false
or_none true b e = absurd cc
or_none false b e = e

dollar_within : (m rest : Text) → has_dollar (m ++ 36 ∷ rest) ≡ true
dollar_within [] rest = refl
dollar_within (x ∷ m) rest = or_after (x == 36) (has_dollar (m ++ 36 ∷ rest)) (dollar_within m rest)

pub version_has_dollar : (c m : Text) (k : ℕ) → has_dollar (version_name c m k) ≡ true
version_has_dollar c m k = dollar_within m (c ++ (codes "$" ++ decimal k))

first_dollar : {G : Type 0} (x : ℕ) (m r s : Text) → has_dollar (x ∷ m) ≡ false → ◌≡◌ {A = Text} (36 ∷ r) ((x ∷ m) ++ 36 ∷ s) → G
first_dollar x m r s plain e = let same : 36 ≡ x = cc in absurd (false≢true (sym plain ∙ ap (λ y. (y == 36) || has_dollar m) (sym same)))

-- what stands before the first `$`, and behind it
pub before_dollar : (m n r s : Text) → has_dollar m ≡ false → has_dollar n ≡ false → ◌≡◌ {A = Text} (m ++ 36 ∷ r) (n ++ 36 ∷ s) → (m ≡ n) × ◌≡◌ {A = Text} r s
before_dollar [] [] r s p q e = (refl, cc)
before_dollar [] (y ∷ n) r s p q e = first_dollar y n r s q e
before_dollar (x ∷ m) [] r s p q e = first_dollar x m s r p (sym e)
before_dollar (x ∷ m) (y ∷ n) r s p q e =
    let first : x ≡ y = cc in
    let rest : ◌≡◌ {A = Text} (m ++ 36 ∷ r) (n ++ 36 ∷ s) = cc in
    let more = before_dollar m n r s (or_none (x == 36) (has_dollar m) p) (or_none (y == 36) (has_dollar n) q) rest in
    let front = more.0 in
    (cc, more.1)

pub one_version : (c d m n : Text) (k j : ℕ) → has_dollar c ≡ false → has_dollar d ≡ false → has_dollar m ≡ false → has_dollar n ≡ false
    → version_name c m k ≡ version_name d n j → (m ≡ n) × (c ≡ d)
one_version c d m n k j of_c of_d of_m of_n e =
    let methods = before_dollar m n (c ++ (codes "$" ++ decimal k)) (d ++ (codes "$" ++ decimal j)) of_m of_n e in
    (methods.0, (before_dollar c d (decimal k) (decimal j) of_c of_d methods.1).0)
