-- Names by their numbers stand for names by their texts, where the texts of a table are distinct.
use Rattle.std.proofs.Common.{◌≡◌, ℕ, zero, suc, ◌<◌, Bool, true, false, ◌||◌, List, [], ◌∷◌, length, take, map, slice_get, unwrap_or, nat_eq, Contains, Option, None, Some, refl, sym, ap, ◌∙◌, arith}
use Rattle.std.specs.List.{filter_map, cons_option}
use Rattle.std.specs.Option.{option_map}
use Rattle.std.specs.Str.{bytes_eq}
use Rattle.std.proofs.lemmas.Slice.Eq.{bytes_eq-Decides}
use Rattle.std.proofs.lemmas.Bool.Decides.{Decides-eqb, Decides-like, same_from_decides}
use Rattle.std.proofs.lemmas.Option.{slice_get-map, slice_get_within}
use Rattle.dj_calculus.proofs.Counting.{got_within}
use Rattle.dj_calculus.proofs.Members.{mapped, mapped_within, among_others, mapped_from}
use Rattle.dj_calculus.specs.FaultPlaces.{Repeats}
use Rattle.dj_faults.specs.LeastPlace.{IsLeastPlace, Among}
use Rattle.dj_faults.specs.Numbers.{Again}
use Rattle.dj_faults.proofs.LeastLemmas.{least_same}
use Rattle.dj_names.specs.Texts.{Text, AreDistinct}
use Rattle.dj_tree.specs.Trees as plain
use Rattle.dj_tree.specs.Plain.{plain_spot}
use Rattle.dj_tree.specs.WellFormed.{IsKnown}
use Rattle.dj_tree.specs.declared.declarations.Spot.{Spot}
use Rattle.dj_calculus.specs.Configurations.{is_named}
use Rattle.dj_faults.specs.Numbers.{is_met, Unmet}

pub present : {X : Type 0} (xs : List X) (k : ℕ) (d : X) → k < length xs → slice_get xs k ≡ Some (unwrap_or (slice_get xs k) d)
present [] k d low = absurd (omega arith)
present (x ∷ xs) zero d low = refl
present (x ∷ xs) (suc k) d low = present xs k d (omega arith)

-- the names of things, and of what they stand for
pub map_named : {X Y A B : Type 0} (f : X → A) (g : Y → B) (p : X → Y) (q : A → B) → ((x : X) → g (p x) ≡ q (f x)) → (xs : List X) → map g (map p xs) ≡ map q (map f xs)
map_named f g p q same [] = refl
map_named f g p q same (x ∷ xs) = ap (λ y. y ∷ map g (map p xs)) (same x) ∙ ap (λ ys. q (f x) ∷ ys) (map_named f g p q same xs)

cons_mapped : {A B : Type 0} (q : A → B) (o : Option A) (xs : List A) → cons_option (option_map q o) (map q xs) ≡ map q (cons_option o xs)
cons_mapped q None xs = refl
cons_mapped q (Some x) xs = refl

pub filter_named : {X Y A B : Type 0} (f : X → Option A) (g : Y → Option B) (p : X → Y) (q : A → B) → ((x : X) → g (p x) ≡ option_map q (f x)) → (xs : List X) → filter_map g (map p xs) ≡ map q (filter_map f xs)
filter_named f g p q same [] = refl
filter_named f g p q same (x ∷ xs) =
    ap (λ o. cons_option o (filter_map g (map p xs))) (same x) ∙ ap (λ ys. cons_option (option_map q (f x)) ys) (filter_named f g p q same xs) ∙ cons_mapped q (f x) (filter_map f xs)

-- at this place of a name that is none of the others
pub record Unnamed (names others : List plain.Spot) (at : ℕ) : Type 0 where
  pub x : plain.Spot
  pub within : Contains names x
  pub unnamed : is_named others x.text ≡ false
  pub here : x.at ≡ at

abbrev pub AllKnown : List Text → List Spot → Type 0
AllKnown names spots = (x : Spot) → Contains spots x → IsKnown names x

abbrev pub text_of : List Text → ℕ → Text
text_of names n = unwrap_or (slice_get names n) []

or_true : (a : Bool) → (a || true) ≡ true
or_true true = refl
or_true false = refl

-- a name is met behind its place
met_at : (spots : List Spot) (before number : ℕ) (x : Spot) (n : ℕ) → before < number → slice_get spots before ≡ Some x → nat_eq x.name.0 n ≡ true → is_met (take number spots) n ≡ true
met_at spots before zero x n low is e = absurd (omega arith)
met_at [] before (suc number) x n low is e = absurd cc
met_at (z ∷ spots) zero (suc number) x n low is e =
    let same : z ≡ x = cc in
    ap (λ (y : Spot). nat_eq y.name.0 n || is_met (take number spots) n) same ∙ ap (λ b. b || is_met (take number spots) n) e
met_at (z ∷ spots) (suc before) (suc number) x n low is e =
    ap (λ b. nat_eq z.name.0 n || b) (met_at spots before number x n (omega arith) is e) ∙ or_true (nat_eq z.name.0 n)

abbrev MetFrom : List Spot → ℕ → ℕ → Type 0
MetFrom spots number n = (before : ℕ) × (before < number) × ((x : Spot) × (slice_get spots before ≡ Some x) × (nat_eq x.name.0 n ≡ true))

met_first : (z : Spot) (spots : List Spot) (number n : ℕ) (b : Bool) (o : Bool) → nat_eq z.name.0 n ≡ b → (o ≡ true → MetFrom spots number n) → (b || o) ≡ true → MetFrom (z ∷ spots) (suc number) n
met_first z spots number n true o is later e = (0, omega arith, (z, refl, is))
met_first z spots number n false o is later e = let found = later e in (suc found.0, omega (arith, found.1), found.2)

met_from : (spots : List Spot) (number n : ℕ) → is_met (take number spots) n ≡ true → MetFrom spots number n
met_from spots zero n e = absurd (cc e)
met_from [] (suc number) n e = absurd cc
met_from (z ∷ spots) (suc number) n e = met_first z spots number n _ _ refl (met_from spots number n) e

module _ (names : List Text) (distinct : AreDistinct names) where
  pub one_number : (a b : ℕ) → a < length names → b < length names → text_of names a ≡ text_of names b → a ≡ b
  one_number a b low below same = distinct a b (text_of names a) (present names a [] low) (present names b [] below ∙ ap Some (sym same))

  pub same_test : (a b : ℕ) → a < length names → b < length names → nat_eq a b ≡ bytes_eq (text_of names a) (text_of names b)
  same_test a b low below =
      same_from_decides {P = a ≡ b} _ _ (Decides-eqb a b)
      (Decides-like _ (one_number a b low below) (ap (text_of names)) (bytes_eq-Decides (text_of names a) (text_of names b)))

  pub met_is_named : (spots : List Spot) (n : ℕ) → AllKnown names spots → n < length names → is_met spots n ≡ is_named (map (plain_spot names) spots) (text_of names n)
  met_is_named [] n known low = refl
  met_is_named (x ∷ spots) n known low =
      ap (λ b. b || is_met spots n) (same_test x.name.0 n (known x (0, omega arith, refl)) low)
      ∙ ap (λ b. bytes_eq (text_of names x.name.0) (text_of names n) || b) (met_is_named spots n (λ y there. known y (among_others x y spots there)) low)

  numbers_texts : (x y : Spot) → nat_eq x.name.0 y.name.0 ≡ true → text_of names x.name.0 ≡ text_of names y.name.0
  numbers_texts x y e = ap (text_of names) ((Decides-eqb x.name.0 y.name.0).0 e)

  again_repeats : (spots : List Spot) (at : ℕ) → Again spots (length spots) at → Repeats (map (plain_spot names) spots) at
  again_repeats spots at h =
      let first = met_from spots h.number h.x.name.0 h.met in
      record {
        before = first.0;
        number = h.number;
        earlier = first.1;
        x = plain_spot names first.2.0;
        y = plain_spot names h.x;
        at_before = slice_get-map (plain_spot names) spots first.0 ∙ ap (option_map (plain_spot names)) first.2.1;
        at_number = slice_get-map (plain_spot names) spots h.number ∙ ap (option_map (plain_spot names)) h.there;
        same = numbers_texts first.2.0 h.x first.2.2;
        here = h.here;
      }

  repeats_again : (spots : List Spot) → AllKnown names spots → (at : ℕ) → Repeats (map (plain_spot names) spots) at → Again spots (length spots) at
  repeats_again spots known at h =
      let first = mapped (plain_spot names) (slice_get spots h.before) h.x (sym (slice_get-map (plain_spot names) spots h.before) ∙ h.at_before) in
      let second = mapped (plain_spot names) (slice_get spots h.number) h.y (sym (slice_get-map (plain_spot names) spots h.number) ∙ h.at_number) in
      let equal : text_of names first.0.name.0 ≡ text_of names second.0.name.0 = ap (λ x. x.text) first.2 ∙ h.same ∙ ap (λ x. x.text) (sym second.2) in
      let number = one_number first.0.name.0 second.0.name.0 (known first.0 (got_within spots h.before first.0 first.1)) (known second.0 (got_within spots h.number second.0 second.1)) equal in
      record {
        number = h.number;
        x = second.0;
        within = slice_get_within spots h.number second.0 second.1;
        there = second.1;
        met = met_at spots h.before h.number first.0 second.0.name.0 h.earlier first.1 ((Decides-eqb first.0.name.0 second.0.name.0).1 number);
        here = ap (λ x. x.at) second.2 ∙ h.here;
      }

  -- the least repeated name
  pub least_repeats : (spots : List Spot) (o : Option ℕ) → AllKnown names spots → IsLeastPlace (Again spots (length spots)) o → IsLeastPlace (Repeats (map (plain_spot names) spots)) o
  least_repeats spots o known is = least_same o (again_repeats spots) (repeats_again spots known) is

  -- the least name that is none of the others
  pub least_unknown : (spots others : List Spot) (o : Option ℕ) → AllKnown names spots → AllKnown names others → IsLeastPlace (Among (Unmet others) spots) o
      → IsLeastPlace (Unnamed (map (plain_spot names) spots) (map (plain_spot names) others)) o
  least_unknown spots others o known both is =
      least_same o (λ at h. record {
        x = plain_spot names h.0;
        within = mapped_within (plain_spot names) spots h.0 h.1;
        unnamed = sym (met_is_named others h.0.name.0 both (known h.0 h.1)) ∙ h.2.0;
        here = h.2.1;
      }) (λ at h. let found = mapped_from (plain_spot names) spots h.x h.within in
      (found.0, found.1, (met_is_named others found.0.name.0 both (known found.0 found.1) ∙ ap (λ (x : plain.Spot). is_named (map (plain_spot names) others) x.text) found.2 ∙ h.unnamed, ap (λ x. x.at) found.2 ∙ h.here))) is
