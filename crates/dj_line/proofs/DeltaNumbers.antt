-- Items and deltas by their numbers, in an accepted line.
use Rattle.std.proofs.Common.{◌≡◌, ℕ, ◌<◌, Bool, true, false, cond, List, [], ◌∷◌, length, Option, Some, slice_get, unwrap_or, Contains, refl, sym, ap, ◌∙◌, subst, eq-eqb, arith}
use Rattle.std.specs.List.{find}
use Rattle.std.specs.Option.{option_and_then}
use Rattle.std.specs.Str.{bytes_eq}
use Rattle.std.proofs.lemmas.Bool.{eqb-true}
use Rattle.std.proofs.lemmas.List.Sums.{passes_at_first}
use Rattle.std.proofs.lemmas.Option.{slice_get_cases, get_or_from_slice_get}
use Rattle.std.proofs.lemmas.Slice.Eq.{bytes_eq-Decides}
use Rattle.dj_names.specs.Texts.{Text}
use Rattle.dj_tree.specs.Trees.{Delta, Item, Source, always}
use Rattle.dj_calculus.specs.Accepted.{IsAccepted}
use Rattle.dj_calculus.specs.Contents.{items_of}
use Rattle.dj_calculus.proofs.Members.{no_element, first_or_other, either, found_within}
use Rattle.dj_line.specs.Placing.{delta_number, is_item_of, condition_of}
use Rattle.dj_line.proofs.AcceptedLines.{deltas_once, item_has_delta, one_item}

-- what passes is found, or another before it
find_there : {X : Type 0} (p : X → Bool) (xs : List X) (x : X) → Contains xs x → p x ≡ true → (y : X) × (find p xs ≡ Some y) × (p y ≡ true)
find_there p [] x has e = no_element x has
find_there {X} p (z ∷ xs) x has e =
    first_case (p z) (find p xs) refl (λ off. either (first_or_other z x xs has) (λ same. let on = ap p same ∙ e in absurd (cc)) (λ later. find_there p xs x later e))
  where
    first_case : (b : Bool) (o : Option X) → p z ≡ b → (p z ≡ false → (y : X) × (o ≡ Some y) × (p y ≡ true)) → (y : X) × (cond b (Some z) o ≡ Some y) × (p y ≡ true)
    first_case true o is later = (z, refl, is)
    first_case false o is later = later is

module _ (source : Source) where
  -- the delta of a number that a name has
  pub delta_at : (text : Text) → delta_number source text < length source.deltas → (d : Delta) × (slice_get source.deltas (delta_number source text) ≡ Some d) × (d.name.text ≡ text)
  delta_at text low =
      either (slice_get_cases source.deltas (delta_number source text)).1
      (λ it.
      let passes = passes_at_first (λ (d : Delta). bytes_eq d.name.text text) source.deltas it.0 low in
      let is = get_or_from_slice_get source.deltas (delta_number source text) it.0 it.0 it.2 in
      (it.0, it.2, (bytes_eq-Decides it.0.name.text text).0 (ap (λ (d : Delta). bytes_eq d.name.text text) (sym is) ∙ passes)))
      (λ past. absurd (omega (arith, past.0, low)))

  module _ (accepted : IsAccepted source) where
    -- the number of a delta's name is the delta's
    pub number_of_delta : (n : ℕ) (d : Delta) (text : Text) → slice_get source.deltas n ≡ Some d → d.name.text ≡ text → delta_number source text < length source.deltas → delta_number source text ≡ n
    number_of_delta n d text at is low =
        let it = delta_at text low in
        deltas_once source accepted (delta_number source text) n it.0 d it.1 at (it.2 ∙ sym is)

    -- the condition of an item is that of its delta
    pub condition_of_item : (item : Item) (n : ℕ) → Contains (items_of source) item → delta_number source item.delta.text ≡ n → condition_of source n ≡ unwrap_or item.condition always
    condition_of_item item n within is =
        let found = find_there (is_item_of source n) (items_of source) item within (eq-eqb (delta_number source item.delta.text) n is) in
        let other = found.0 in
        let there = found_within (is_item_of source n) (items_of source) other found.1 in
        let number : delta_number source other.delta.text ≡ n = eqb-true (delta_number source other.delta.text) n found.2 in
        let d = delta_at item.delta.text (item_has_delta source accepted item within) in
        let e = delta_at other.delta.text (item_has_delta source accepted other there) in
        let P : ℕ → Type 0 = λ k. slice_get source.deltas k ≡ Some e.0 in
        let both : Some d.0 ≡ Some e.0 = sym d.1 ∙ subst P (number ∙ sym is) e.1 in
        let one : d.0 ≡ e.0 = cc in
        let same = one_item source accepted other item there within (sym e.2 ∙ ap (λ (x : Delta). x.name.text) (sym one) ∙ d.2) in
        ap (λ o. unwrap_or (option_and_then (λ (i : Item). i.condition) o) always) (found.1 ∙ ap Some same)
