-- The names of the versions of a class's methods are apart.
use Rattle.std.proofs.Common.{◌≡◌, ◌⊎◌, inl, inr, ℕ, suc, ◌+◌, ◌<◌, ◌≤◌, ◌^◌, ◌==◌, Bool, true, false, List, [], ◌∷◌, ◌++◌, map, length, Some, None, cond, Contains, refl, sym, ap, ◌∙◌, subst, arith}
use Rattle.std.specs.Prelude.{codes}
use Rattle.std.specs.Bool.{if◌then◌else◌}
use Rattle.std.specs.Fmt.{decimal}
use Rattle.std.specs.List.{flat_map, enumerate_from}
use Rattle.std.specs.FinMap.{find}
use Rattle.std.proofs.lemmas.Bool.{false≢true, cond_both, eqb-true, eq-eqb}
use Rattle.std.proofs.lemmas.Fmt.{decimal_injective}
use Rattle.std.proofs.lemmas.List.{map-append}
use Rattle.std.proofs.lemmas.List.Elements.{Contains-append_left, Contains-append_right}
use Rattle.std.specs.Ordering.{eq_by_cmp}
use Rattle.dj_names.specs.Texts.{Text}
use Rattle.dj_calculus.specs.Maps.{text_cmp}
use Rattle.dj_calculus.specs.Tables.{Body, MethodEntry}
use Rattle.dj_calculus.specs.FlatTables.{version_name, version, versions, has_dollar}
use Rattle.dj_calculus.proofs.MapLemmas.{same_key}
use Rattle.dj_calculus.proofs.Members.{no_element, first_or_other, among_others, either, in_front_or_behind, mapped_from, mapped_within, from_flat}
use Rattle.dj_calculus_laws.proofs.VersionNames.{version_has_dollar, before_dollar}
use Rattle.dj_calculus_laws.proofs.FlatTyping.{Plain}
use Rattle.ifj_table.specs.Sorted.{AreRising}
use Rattle.ifj_table.proofs.MapLists.{not_less_itself}
use Rattle.ifj_table.proofs.TableLemmas.{element_is}
use Rattle.ifj_flatten.specs.Changes.{AreApart, names_of}

-- ---- texts that are apart

pub apart_append : (xs ys : List Text) → AreApart xs → AreApart ys → ((x : Text) → Contains xs x → Contains ys x → ⊥) → AreApart (xs ++ ys)
apart_append [] ys first second none = second
apart_append (x ∷ xs) ys first second none = (
  λ within. either (in_front_or_behind xs ys x within) first.0 (none x (0, omega arith, refl)),
  apart_append xs ys first.1 second (λ y there. none y (among_others x y xs there)),
)

pub apart_front : (xs ys : List Text) → AreApart (xs ++ ys) → AreApart xs
apart_front [] ys apart = tt
apart_front (x ∷ xs) ys apart = (λ within. apart.0 (Contains-append_left xs ys x within), apart_front xs ys apart.1)

pub rising_apart : (xs : List Text) → AreRising xs → AreApart xs
rising_apart [] rising = tt
rising_apart (x ∷ xs) rising = (
  λ within. not_less_itself x (rising 0 (suc within.0) x x (omega arith) refl (element_is xs within.0 x within.1 (sym within.2))),
  rising_apart xs (λ i j y z low at_i at_j. rising (suc i) (suc j) y z (omega (arith, low)) at_i at_j),
)

names_append : {X : Type 0} (xs ys : List (Text × X)) → names_of (xs ++ ys) ≡ names_of xs ++ names_of ys
names_append {X} xs ys = map-append (λ (e : Text × X). e.0) xs ys

pub front_apart : {X : Type 0} (xs ys : List (Text × X)) → AreApart (names_of (xs ++ ys)) → AreApart (names_of xs)
front_apart xs ys apart = apart_front (names_of xs) (names_of ys) (subst AreApart (names_append xs ys) apart)

-- what stands behind isn't found before
pub not_before : {X : Type 0} (xs rest : List (Text × X)) (k : Text) (x : X) → AreApart (names_of (xs ++ (k, x) ∷ rest)) → find text_cmp k xs ≡ None
not_before [] rest k x apart = refl
not_before {X} (e ∷ xs) rest k x apart = by (eq_by_cmp text_cmp k e.0) refl (not_before xs rest k x apart.1)
  where
    there : Contains (names_of (xs ++ (k, x) ∷ rest)) k
    there = mapped_within (λ (p : Text × X). p.0) (xs ++ (k, x) ∷ rest) (k, x) (Contains-append_right xs ((k, x) ∷ rest) (k, x) (0, omega arith, refl))

    by : (b : Bool) → eq_by_cmp text_cmp k e.0 ≡ b → find text_cmp k xs ≡ None → cond b (Some e.1) (find text_cmp k xs) ≡ None
    by true same none = absurd (apart.0 (subst (Contains (names_of (xs ++ (k, x) ∷ rest))) (same_key k e.0 same) there))
    by false same none = none

-- ---- names of versions

abbrev pub name_of : Text → Text → ℕ → ℕ → Text
name_of c m count k = if k + 1 == count then m else version_name c m k

-- the name is the method's own, or has a `$`
newest_or : (c m : Text) (count k : ℕ) → ((k + 1 ≡ count) × (name_of c m count k ≡ m)) ⊎ (name_of c m count k ≡ version_name c m k)
newest_or c m count k =
    cond_both (k + 1 == count) m (version_name c m k) (λ t. ((k + 1 ≡ count) × (t ≡ m)) ⊎ (t ≡ version_name c m k)) (λ is. inl (eqb-true (k + 1) count is, refl)) (λ is. inr refl)

plain_or_dollar : {G : Type 0} (c m n : Text) (k : ℕ) → Plain n → n ≡ version_name c m k → G
plain_or_dollar c m n k plain same = absurd (false≢true (sym plain ∙ ap has_dollar same ∙ version_has_dollar c m k))

-- one name tells the method, where no method has a `$`
pub one_method : (c m n : Text) (count other k j : ℕ) → Plain m → Plain n → name_of c m count k ≡ name_of c n other j → m ≡ n
one_method c m n count other k j of_m of_n same = by (newest_or c m count k) (newest_or c n other j)
  where
    by : ((k + 1 ≡ count) × (name_of c m count k ≡ m)) ⊎ (name_of c m count k ≡ version_name c m k) → ((j + 1 ≡ other) × (name_of c n other j ≡ n)) ⊎ (name_of c n other j ≡ version_name c n j) → m ≡ n
    by (inl p) (inl q) = sym p.1 ∙ same ∙ q.1
    by (inl p) (inr q) = plain_or_dollar c n m j of_m (sym p.1 ∙ same ∙ q)
    by (inr p) (inl q) = plain_or_dollar c m n k of_n (sym q.1 ∙ sym same ∙ p)
    by (inr p) (inr q) = (before_dollar m n (c ++ (codes "$" ++ decimal k)) (c ++ (codes "$" ++ decimal j)) of_m of_n (sym p ∙ same ∙ q)).0

-- and its number
pub one_number : (c m : Text) (count k j : ℕ) → Plain c → Plain m → k < 2 ^ 64 → j < 2 ^ 64 → name_of c m count k ≡ name_of c m count j → k ≡ j
one_number c m count k j of_c of_m small low same = by (newest_or c m count k) (newest_or c m count j)
  where
    by : ((k + 1 ≡ count) × (name_of c m count k ≡ m)) ⊎ (name_of c m count k ≡ version_name c m k) → ((j + 1 ≡ count) × (name_of c m count j ≡ m)) ⊎ (name_of c m count j ≡ version_name c m j) → k ≡ j
    by (inl p) (inl q) = omega (arith, p.0, q.0)
    by (inl p) (inr q) = plain_or_dollar c m m j of_m (sym p.1 ∙ same ∙ q)
    by (inr p) (inl q) = plain_or_dollar c m m k of_m (sym q.1 ∙ sym same ∙ p)
    by (inr p) (inr q) =
        let behind = before_dollar m m (c ++ (codes "$" ++ decimal k)) (c ++ (codes "$" ++ decimal j)) of_m of_m (sym p ∙ same ∙ q) in
        decimal_injective k j small low (before_dollar c c (decimal k) (decimal j) of_c of_c behind.1).1

-- ---- the versions of a method

later_number : {X : Type 0} (n : ℕ) (xs : List X) (e : ℕ × X) → Contains (enumerate_from n xs) e → (n ≤ e.0) × (e.0 < n + length xs)
later_number n [] e has = no_element e has
later_number n (x ∷ xs) e has =
    either (first_or_other (n, x) e (enumerate_from (n + 1) xs) has) (λ here. let at = ap (λ y. y.0) here in (omega (arith, at), omega (arith, at)))
    (λ later. let found = later_number (n + 1) xs e later in (omega (arith, found.0), omega (arith, found.1)))

numbers_apart : (c m : Text) (method : MethodEntry) (n : ℕ) (bodies : List Body) → Plain c → Plain m → n + length bodies < 2 ^ 64 → AreApart (names_of (map (version c m method) (enumerate_from n bodies)))
numbers_apart c m method n [] of_c of_m small = tt
numbers_apart c m method n (b ∷ bodies) of_c of_m small = (
  λ within.
      let named = mapped_from (λ (e : Text × MethodEntry). e.0) (map (version c m method) (enumerate_from (n + 1) bodies)) _ within in
      let at = mapped_from (version c m method) (enumerate_from (n + 1) bodies) named.0 named.1 in
      let number = later_number (n + 1) bodies at.0 at.1 in
      let same : name_of c m (length method.bodies) at.0.0 ≡ name_of c m (length method.bodies) n = ap (λ (e : Text × MethodEntry). e.0) at.2 ∙ named.2 in
      let one = one_number c m (length method.bodies) at.0.0 n of_c of_m (omega (arith, number.1, small)) (omega (arith, small)) same in
      omega (arith, one, number.0),
  numbers_apart c m method (n + 1) bodies of_c of_m (omega (arith, small)),
)

-- the number that a name of a version is of
pub record IsNamed (c : Text) (entry : Text × MethodEntry) (name : Text) : Type 0 where
  pub number : ℕ
  pub low : number < length entry.1.bodies
  pub is : name_of c entry.0 (length entry.1.bodies) number ≡ name

named_version : (c : Text) (entry : Text × MethodEntry) (name : Text) → Contains (names_of (versions c entry)) name → IsNamed c entry name
named_version c entry name within =
    let named = mapped_from (λ (e : Text × MethodEntry). e.0) (versions c entry) name within in
    let at = mapped_from (version c entry.0 entry.1) (enumerate_from 0 entry.1.bodies) named.0 named.1 in
    let number = later_number 0 entry.1.bodies at.0 at.1 in
    record { number = at.0.0; low = omega (arith, number.1); is = ap (λ (e : Text × MethodEntry). e.0) at.2 ∙ named.2 }

-- no name has a `$`, or each method has one body
abbrev pub AreNameable : Text → List (Text × MethodEntry) → Type 0
AreNameable c entries = (Plain c × ((e : Text × MethodEntry) → Contains entries e → Plain e.0)) ⊎ ((e : Text × MethodEntry) → Contains entries e → length e.1.bodies ≡ 1)

abbrev pub AreFew : List (Text × MethodEntry) → Type 0
AreFew entries = (e : Text × MethodEntry) → Contains entries e → length e.1.bodies < 2 ^ 64

only_name : (c m : Text) (count k : ℕ) → count ≡ 1 → k < count → name_of c m count k ≡ m
only_name c m count k one low = by (newest_or c m count k)
  where
    by : ((k + 1 ≡ count) × (name_of c m count k ≡ m)) ⊎ (name_of c m count k ≡ version_name c m k) → name_of c m count k ≡ m
    by (inl p) = p.1
    by (inr p) = ap (λ b. if b then m else version_name c m k) (eq-eqb (k + 1) count (omega (arith, one, low)))

one_alone : (c m : Text) (method : MethodEntry) (bodies : List Body) → length bodies ≡ 1 → AreApart (names_of (map (version c m method) (enumerate_from 0 bodies)))
one_alone c m method [] one = tt
one_alone c m method (b ∷ []) one = (λ within. no_element _ within, tt)
one_alone c m method (b ∷ d ∷ bodies) one = absurd (omega arith)

versions_of_one : (c : Text) (entry : Text × MethodEntry) (entries : List (Text × MethodEntry)) → AreNameable c (entry ∷ entries) → AreFew (entry ∷ entries) → AreApart (names_of (versions c entry))
versions_of_one c entry entries (inl plain) few =
    numbers_apart c entry.0 entry.1 0 entry.1.bodies plain.0 (plain.1 entry (0, omega arith, refl)) (let small = few entry (0, omega arith, refl) in omega (arith, small))
versions_of_one c entry entries (inr one) few = one_alone c entry.0 entry.1 entry.1.bodies (one entry (0, omega arith, refl))

same_method : (c : Text) (entry : Text × MethodEntry) (entries : List (Text × MethodEntry)) (other : Text × MethodEntry) (name : Text) → AreNameable c (entry ∷ entries) → Contains entries other → IsNamed c entry name → IsNamed c other name → entry.0 ≡ other.0
same_method c entry entries other name (inl plain) within p q =
    one_method c entry.0 other.0 (length entry.1.bodies) (length other.1.bodies) p.number q.number (plain.1 entry (0, omega arith, refl)) (plain.1 other (among_others entry other entries within)) (p.is ∙ sym q.is)
same_method c entry entries other name (inr one) within p q =
    sym (only_name c entry.0 (length entry.1.bodies) p.number (one entry (0, omega arith, refl)) p.low) ∙ p.is ∙ sym q.is
    ∙ only_name c other.0 (length other.1.bodies) q.number (one other (among_others entry other entries within)) q.low

others_nameable : (c : Text) (entry : Text × MethodEntry) (entries : List (Text × MethodEntry)) → AreNameable c (entry ∷ entries) → AreNameable c entries
others_nameable c entry entries (inl plain) = inl (plain.0, λ e within. plain.1 e (among_others entry e entries within))
others_nameable c entry entries (inr one) = inr (λ e within. one e (among_others entry e entries within))

pub versions_apart : (c : Text) (entries : List (Text × MethodEntry)) → AreApart (names_of entries) → AreNameable c entries → AreFew entries → AreApart (names_of (flat_map (versions c) entries))
versions_apart c [] apart nameable few = tt
versions_apart c (entry ∷ entries) apart nameable few =
    subst AreApart (sym (names_append (versions c entry) (flat_map (versions c) entries)))
    (apart_append (names_of (versions c entry)) (names_of (flat_map (versions c) entries)) (versions_of_one c entry entries nameable few)
    (versions_apart c entries apart.1 (others_nameable c entry entries nameable) (λ e within. few e (among_others entry e entries within)))
    (λ name here there.
    let named = mapped_from (λ (e : Text × MethodEntry). e.0) (flat_map (versions c) entries) name there in
    let from = from_flat (versions c) entries named.0 named.1 in
    let in_names = subst (Contains (names_of (versions c from.0))) named.2 (mapped_within (λ (e : Text × MethodEntry). e.0) (versions c from.0) named.0 from.2) in
    let same = same_method c entry entries from.0 name nameable from.1 (named_version c entry name here) (named_version c from.0 name in_names) in
    apart.0 (subst (Contains (names_of entries)) (sym same) (mapped_within (λ (e : Text × MethodEntry). e.0) entries from.0 from.1))))
