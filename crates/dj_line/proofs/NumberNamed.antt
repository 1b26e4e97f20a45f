-- The number of a name, by the number that its text has.
use Rattle.std.proofs.Common.{◌≡◌, ℕ, ◌<◌, Bool, true, false, not, nat_eq, List, [], length, map, Some, None, slice_get, get_or, unwrap_or, Contains, All, refl, sym, ap, ◌∙◌, subst, eq-eqb, arith}
use Rattle.std.specs.List.{position, position_or_len}
use Rattle.std.specs.Option.{option_map}
use Rattle.std.proofs.lemmas.Bool.{eqb-true}
use Rattle.std.proofs.lemmas.List.{length-map}
use Rattle.std.proofs.lemmas.List.Quantifiers.{position-Some}
use Rattle.std.proofs.lemmas.List.Sums.{fails_before_first, prefix_len-le-length}
use Rattle.std.proofs.lemmas.Option.{slice_get_within, get_or_from_slice_get, slice_get-get_or, slice_get-map, slice_get_cases, unwrap_or-slice_get}
use Rattle.dj_names.specs.Texts.{Text, AreDistinct}
use Rattle.dj_tree.specs.Plain.{plain_spot}
use Rattle.dj_tree.specs.WellFormed.{IsKnown}
use Rattle.dj_tree.specs.declared.declarations.Spot.{Spot}
use Rattle.dj_calculus.specs.Configurations.{is_named}
use Rattle.dj_line.specs.Naming.{IsNamedAt}
use Rattle.dj_calculus.proofs.Members.{either}
use Rattle.dj_conditions.proofs.Names.{not_found}
use Rattle.dj_calculus.proofs.Counting.{got_within, number_in}
use Rattle.dj_line.proofs.AcceptedLines.{named_one}

pub one_truth : (b : Bool) → (b ≡ true → ⊥) → b ≡ false
one_truth true h = absurd (h refl)
one_truth false h = refl

module _ (names : List Text) (spots : List Spot) (known : All (IsKnown names) spots) where
  -- a name with this text, as it stands in the table
  named_spot : (text : Text) → is_named (map (plain_spot names) spots) text ≡ true → (s : Spot) × Contains spots s × (slice_get names s.name.0 ≡ Some text)
  named_spot text named =
      let s = named_one (plain_spot names) spots text named in
      let P : Spot → Type 0 = IsKnown names in
      let inside : s.0.name.0 < length names = subst P s.1.2 (known s.1.0 s.0 s.1.1) in
      let text_is : get_or names s.0.name.0 [] ≡ text = sym (unwrap_or-slice_get names s.0.name.0 []) ∙ s.2 in
      (s.0, s.1, slice_get-get_or names s.0.name.0 [] inside ∙ ap Some text_is)

  -- no name of the table has the text
  pub no_name : (text : Text) → (Contains names text → ⊥) → is_named (map (plain_spot names) spots) text ≡ false
  no_name text never = one_truth _ (λ named. let s = named_spot text named in never (got_within names s.0.name.0 text s.2))

  module _ (keys : List ℕ) (are : keys ≡ map (λ s. s.name.0) spots) where
    key_at : (k : ℕ) (s : Spot) → slice_get spots k ≡ Some s → slice_get keys k ≡ Some s.name.0
    key_at k s at = ap (λ ks. slice_get ks k) are ∙ slice_get-map (λ s. s.name.0) spots k ∙ ap (option_map (λ s. s.name.0)) at

    -- the name of the text is no key
    pub no_key : AreDistinct names → (text : Text) (name : ℕ) → slice_get names name ≡ Some text → None ≡ position (nat_eq name) keys → is_named (map (plain_spot names) spots) text ≡ false
    no_key distinct text name at none =
        one_truth _ (λ named.
        let s = named_spot text named in
        let same : s.0.name.0 ≡ name = distinct s.0.name.0 name text s.2 at in
        let k = number_in spots s.0 s.1 in
        let key = key_at k.0 s.0 k.1 in
        let past = not_found (length keys) (position_or_len (nat_eq name) keys) (length keys) refl (prefix_len-le-length (λ x. not (nat_eq name x)) keys) none in
        let fails = fails_before_first (nat_eq name) keys k.0 0 (omega (arith, past, slice_get_within keys k.0 s.0.name.0 key)) in
        let passes = eq-eqb name (get_or keys k.0 0) (sym (get_or_from_slice_get keys k.0 s.0.name.0 0 key ∙ same)) in
        absurd (cc))

    pub at_key : (text : Text) (name number : ℕ) → slice_get names name ≡ Some text → Some number ≡ position (nat_eq name) keys → IsNamedAt (map (plain_spot names) spots) number text
    at_key text name number at found =
        let first = position-Some (nat_eq name) keys number 0 (sym found) in
        either (slice_get_cases spots number).1
        (λ s.
        let key = get_or_from_slice_get keys number s.0.name.0 0 (key_at number s.0 s.2) in
        let same : name ≡ s.0.name.0 = eqb-true name (get_or keys number 0) first.1 ∙ key in
        (plain_spot names s.0, slice_get-map (plain_spot names) spots number ∙ ap (option_map (plain_spot names)) s.2, ap (λ o. unwrap_or o []) (ap (slice_get names) (sym same) ∙ at)))
        (λ past. absurd (omega (arith, past.0, first.0, ap length are, length-map spots (λ (s : Spot). s.name.0))))
