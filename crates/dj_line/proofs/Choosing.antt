-- A configuration that is made piece by piece.
use Rattle.std.proofs.Common.{◌≡◌, ℕ, ◌<◌, ◌≤◌, ◌+◌, Bool, true, false, ◌||◌, List, length, take, set, Some, slice_get, sym, ap, ◌∙◌, subst, add-one, arith}
use Rattle.std.specs.List.{list_any}
use Rattle.std.specs.Str.{bytes_eq}
use Rattle.std.proofs.lemmas.Option.{slice_get_within}
use Rattle.std.proofs.lemmas.List.{length-set, take_all}
use Rattle.std.proofs.lemmas.Slice.Eq.{bytes_eq-Decides}
use Rattle.dj_names.specs.Texts.{Text}
use Rattle.dj_tree.specs.Trees.{Spot, Source}
use Rattle.dj_calculus.specs.Accepted.{IsAccepted}
use Rattle.dj_calculus.specs.Configurations.{ConfigurationFault, unknown_feature, repeated_feature, PieceFault, no_feature, stood_before, HasNoPieceFault, choosing, is_named}
use Rattle.dj_calculus.proofs.Members.{either}
use Rattle.dj_calculus.proofs.Counting.{earlier_or_last}
use Rattle.dj_line.specs.Naming.{IsNamedAt}
use Rattle.dj_line.specs.Words.{IsLeftmost}
use Rattle.dj_line.proofs.AcceptedLines.{features_once}
use Rattle.dj_line.proofs.Lists.{earlier, or_true, or_same, any_at, any_before, any_more, not_below, get_set_same, get_set_other, mapped_by, eq_or_not}
use Rattle.dj_line.proofs.NumberNamed.{one_truth}

-- ---- the configuration of the first pieces

-- each feature is chosen exactly where it is one of the first k pieces, and none of these is at fault
pub record ChoosesFirst (source : Source) (pieces : List Text) (k : ℕ) (chosen : List Bool) : Type 0 where
  pub as_many : length chosen ≡ length source.features
  pub each : (i : ℕ) (f : Spot) → slice_get source.features i ≡ Some f → slice_get chosen i ≡ Some (list_any (bytes_eq f.text) (take k pieces))
  pub clean : (j : ℕ) (fault : ConfigurationFault) → j < k → ¬ (PieceFault source pieces j fault)

module _ (source : Source) (accepted : IsAccepted source) (pieces : List Text) where
  pub chooses_all : (k : ℕ) (chosen : List Bool) → length pieces ≤ k → ChoosesFirst source pieces k chosen → HasNoPieceFault source pieces × (chosen ≡ choosing source pieces)
  chooses_all k chosen past h = (
    (λ j fault stands. h.clean j fault (omega (arith, fault_within j fault stands)) stands),
    mapped_by (λ (f : Spot). list_any (bytes_eq f.text) pieces) source.features chosen h.as_many (λ i f at. h.each i f at ∙ ap (λ ps. Some (list_any (bytes_eq f.text) ps)) (take_all k pieces past)),
  )
    where
      fault_within : (j : ℕ) (fault : ConfigurationFault) → PieceFault source pieces j fault → j < length pieces
      fault_within j fault (no_feature n piece at named) = slice_get_within pieces j piece at
      fault_within j fault (stood_before n before piece low at_before at) = slice_get_within pieces j piece at

  module _ (k : ℕ) (chosen : List Bool) (h : ChoosesFirst source pieces k chosen) (piece : Text) (here : slice_get pieces k ≡ Some piece) where
    leftmost : (fault : ConfigurationFault) → PieceFault source pieces k fault → IsLeftmost source pieces k fault
    leftmost fault stands = record { here = stands; first = λ other g at. not_below k other (λ low. h.clean other g low at) }

    pub unknown_piece : is_named source.features piece ≡ false → IsLeftmost source pieces k (unknown_feature k)
    unknown_piece named = leftmost (unknown_feature k) (no_feature k piece here named)

    module _ (n : ℕ) (at : IsNamedAt source.features n piece) where
      pub feature_within : n < length chosen
      feature_within = omega (arith, slice_get_within source.features n at.0 at.1, h.as_many)

      pub repeated_piece : slice_get chosen n ≡ Some true → IsLeftmost source pieces k (repeated_feature k)
      repeated_piece on =
          let e : Some (list_any (bytes_eq at.0.text) (take k pieces)) ≡ Some true = sym (h.each n at.0 at.1) ∙ on in
          let it = earlier (bytes_eq at.0.text) pieces k (cc) in
          let same : it.2.0 ≡ piece = sym ((bytes_eq-Decides at.0.text it.2.0).0 it.2.2) ∙ at.2 in
          leftmost (repeated_feature k) (stood_before k it.0 piece it.1 (it.2.1 ∙ ap Some same) here)

      pub chooses_next : slice_get chosen n ≡ Some false → ChoosesFirst source pieces (k + 1) (set chosen n true)
      chooses_next off = record {
        as_many = length-set chosen n true ∙ h.as_many;
        each = λ i f is. either (eq_or_not i n) (λ same. chosen_here i f is same) (λ ne. chosen_there i f is ne);
        clean = λ j fault low stands. either (earlier_or_last j k low) (λ before. h.clean j fault before stands) (λ same. clean_here j fault same stands);
      }
        where
          more : (f : Spot) → list_any (bytes_eq f.text) (take (k + 1) pieces) ≡ (list_any (bytes_eq f.text) (take k pieces) || bytes_eq f.text piece)
          more f = ap (λ m. list_any (bytes_eq f.text) (take m pieces)) (add-one k) ∙ any_more (bytes_eq f.text) pieces k piece here

          chosen_here : (i : ℕ) (f : Spot) → slice_get source.features i ≡ Some f → i ≡ n → slice_get (set chosen n true) i ≡ Some (list_any (bytes_eq f.text) (take (k + 1) pieces))
          chosen_here i f is same =
              let P : ℕ → Type 0 = λ m. slice_get source.features m ≡ Some f in
              let e : Some f ≡ Some at.0 = sym (subst P same is) ∙ at.1 in
              let one : f ≡ at.0 = cc in
              ap (slice_get (set chosen n true)) same ∙ get_set_same chosen n true feature_within
              ∙ ap Some (sym (more f ∙ or_true (list_any (bytes_eq f.text) (take k pieces)) (bytes_eq f.text piece) ((bytes_eq-Decides f.text piece).1 (ap (λ (x : Spot). x.text) one ∙ at.2))))

          chosen_there : (i : ℕ) (f : Spot) → slice_get source.features i ≡ Some f → (i ≡ n → ⊥) → slice_get (set chosen n true) i ≡ Some (list_any (bytes_eq f.text) (take (k + 1) pieces))
          chosen_there i f is ne =
              let apart = one_truth (bytes_eq f.text piece) (λ e. ne (features_once source accepted i n f at.0 is at.1 ((bytes_eq-Decides f.text piece).0 e ∙ sym at.2))) in
              get_set_other chosen n i true ne ∙ h.each i f is ∙ ap Some (sym (more f ∙ or_same (list_any (bytes_eq f.text) (take k pieces)) (bytes_eq f.text piece) apart))

          clean_here : (j : ℕ) (fault : ConfigurationFault) → j ≡ k → PieceFault source pieces j fault → ⊥
          clean_here j fault same (no_feature m other is named) =
              let e : Some other ≡ Some piece = sym is ∙ ap (slice_get pieces) same ∙ here in
              let one : other ≡ piece = cc in
              let known = any_at (λ (x : Spot). bytes_eq x.text other) source.features n at.0 at.1 ((bytes_eq-Decides at.0.text other).1 (at.2 ∙ sym one)) in
              absurd (cc)
          clean_here j fault same (stood_before m before other low at_before is) =
              let e : Some other ≡ Some piece = sym is ∙ ap (slice_get pieces) same ∙ here in
              let one : other ≡ piece = cc in
              let on = any_before (bytes_eq at.0.text) pieces k before other (omega (arith, low, same)) at_before ((bytes_eq-Decides at.0.text other).1 (at.2 ∙ sym one)) in
              let chosen_it : Some (list_any (bytes_eq at.0.text) (take k pieces)) ≡ Some false = sym (h.each n at.0 at.1) ∙ off in
              absurd (cc)
