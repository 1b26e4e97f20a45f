-- Names by their numbers, where the texts of a table are distinct.
use Rattle.std.proofs.Common.{◌≡◌, ℕ, ◌<◌, ◌≤◌, Bool, true, false, cond, not, nat_eq, List, [], ◌∷◌, map, length, get_or, Some, None, slice_get, unwrap_or, All, ◌+◌, suc, refl, sym, ap, ◌∙◌, subst, eq-eqb, eqb, ltb, arith}
use Rattle.std.specs.List.{position_or_len}
use Rattle.std.specs.Str.{bytes_eq}
use Rattle.std.proofs.lemmas.Bool.{ltb-false, eqb-true}
use Rattle.std.proofs.lemmas.Option.{slice_get-get_or, unwrap_or-slice_get, get_or_from_slice_get, slice_get_within}
use Rattle.std.proofs.lemmas.Slice.Eq.{bytes_eq-Decides}
use Rattle.dj_names.specs.Texts.{Text, AreDistinct}
use Rattle.dj_tree.specs.declared.declarations.Spot.{Spot}
use Rattle.dj_tree.specs.Plain.{plain_spot}
use Rattle.dj_tree.specs.WellFormed.{IsKnown}
use Rattle.dj_conditions.specs.Conditions.{feature_number}

-- nothing found: the number is the length
pub not_found : (r place count : ℕ) → r ≡ count → place ≤ count → None ≡ cond (ltb place count) (Some place) None → r ≡ place
not_found r place count e within none = by_test (ltb place count) refl none
  where
    by_test : (b : Bool) → ltb place count ≡ b → None ≡ cond b (Some place) None → r ≡ place
    by_test true is n = absurd (cc)
    by_test false is n = omega (arith, ltb-false place count is)

same_tests : (p q : Bool) → (p ≡ true → q ≡ true) → (q ≡ true → p ≡ true) → p ≡ q
same_tests true true f g = refl
same_tests true false f g = sym (f refl)
same_tests false true f g = g refl
same_tests false false f g = refl

-- two names have the same text exactly where they have the same number
pub same_text : (names : List Text) → AreDistinct names → (a b : ℕ) → a < length names → b < length names
    → unwrap_or (slice_get names a) [] ≡ unwrap_or (slice_get names b) [] → a ≡ b
same_text names distinct a b at_a at_b same =
    let is_a = slice_get-get_or names a [] at_a in
    let is_b = slice_get-get_or names b [] at_b in
    let e : get_or names a [] ≡ get_or names b [] = sym (unwrap_or-slice_get names a []) ∙ same ∙ unwrap_or-slice_get names b [] in
    distinct a b (get_or names a []) is_a (is_b ∙ ap Some (sym e))

pub name_test : (names : List Text) → AreDistinct names → (a b : ℕ) → a < length names → b < length names
    → eqb a b ≡ bytes_eq (unwrap_or (slice_get names b) []) (unwrap_or (slice_get names a) [])
name_test names distinct a b at_a at_b =
    let decides = bytes_eq-Decides (unwrap_or (slice_get names b) []) (unwrap_or (slice_get names a) []) in
    same_tests _ _ (λ e. decides.1 (ap (λ n. unwrap_or (slice_get names n) []) (sym (eqb-true a b e))))
    (λ e. eq-eqb a b (sym (same_text names distinct b a at_b at_a (decides.0 e))))

-- the number of a feature, by the number of its name
pub number_of : (names : List Text) → AreDistinct names → (features : List Spot) → All (IsKnown names) features → (x : Spot) → IsKnown names x
    → position_or_len (nat_eq x.name.0) (map (λ f. f.name.0) features) ≡ feature_number (map (plain_spot names) features) (plain_spot names x).text
number_of names distinct [] known x at_x = refl
number_of names distinct (f ∷ features) known x at_x =
    ap (λ b. cond (not b) (1 + position_or_len (nat_eq x.name.0) (map (λ f. f.name.0) features)) 0) (name_test names distinct x.name.0 f.name.0 at_x (known 0 f (omega arith)))
    ∙ ap (λ n. cond (not (bytes_eq (plain_spot names f).text (plain_spot names x).text)) (1 + n) 0) (number_of names distinct features (λ k g low. known (suc k) g (omega arith)) x at_x)

-- what holds of all elements holds of the one at a number
pub of_all : {X : Type 0} (P : X → Type 0) (xs : List X) (k : ℕ) (x : X) → All P xs → slice_get xs k ≡ Some x → P x
of_all P xs k x all at = subst P (get_or_from_slice_get xs k x x at) (all k x (slice_get_within xs k x at))
