-- What an accepted source gives to its tables.
use Rattle.std.proofs.Common.{◌≡◌, ◌⊎◌, inl, inr, ℕ, zero, suc, ◌<◌, List, [], ◌∷◌, ◌++◌, length, map, Some, slice_get, get_or, unwrap_or, All, refl, sym, ap, ◌∙◌, subst, arith}
use Rattle.std.proofs.lemmas.List.{length-map}
use Rattle.std.proofs.lemmas.Option.{slice_get-map, slice_get-get_or}
use Rattle.dj_names.specs.Texts.{AreDistinct}
use Rattle.dj_tree.specs.Trees as plain
use Rattle.dj_tree.specs.Plain.{plain_spot, plain_item, plain_part, plain_delta, plain_source}
use Rattle.dj_tree.specs.WellFormed.{IsWellFormed}
use Rattle.dj_tree.specs.declared.declarations.Spot.{Spot}
use Rattle.dj_tree.specs.declared.declarations.PartDecl.{PartDecl}
use Rattle.dj_tree.specs.declared.declarations.DeltaDecl.{DeltaDecl}
use Rattle.dj_tree.specs.declared.source.Source.{Source}
use Rattle.dj_calculus.specs.Accepted.{IsAccepted}
use Rattle.dj_calculus.proofs.Members.{mapped, mapped_within, within_flat, either}
use Rattle.dj_line.specs.declared.tables.Placing.{Placing}
use Rattle.dj_line.specs.Numbering.{StandOnce, number_by, IsPlaced}
use Rattle.dj_line.specs.Placing.{StandsIn}
use Rattle.dj_line.proofs.AcceptedLines.{features_once, deltas_once, item_has_delta}
use Rattle.dj_calculus.proofs.Counting.{got_within}
use Rattle.dj_line.proofs.Bridge.{same_number, item_known, mapped_at}

module _ (s : Source) (accepted : IsAccepted (plain_source s)) where
  abbrev line : plain.Source
  line = plain_source s

  pub features_stand_once : StandOnce (map (λ f. f.name.0) s.features)
  features_stand_once i j n at_i at_j =
      let f = mapped (λ (f : Spot). f.name.0) (slice_get s.features i) n (sym (slice_get-map (λ f. f.name.0) s.features i) ∙ at_i) in
      let g = mapped (λ (f : Spot). f.name.0) (slice_get s.features j) n (sym (slice_get-map (λ f. f.name.0) s.features j) ∙ at_j) in
      features_once line accepted i j (plain_spot s.names f.0) (plain_spot s.names g.0) (mapped_at (plain_spot s.names) s.features i f.0 f.1) (mapped_at (plain_spot s.names) s.features j g.0 g.1)
      (ap (λ k. unwrap_or (slice_get s.names k) []) (f.2 ∙ sym g.2))

  pub deltas_stand_once : StandOnce (map (λ d. d.spot.name.0) s.deltas)
  deltas_stand_once i j n at_i at_j =
      let f = mapped (λ (d : DeltaDecl). d.spot.name.0) (slice_get s.deltas i) n (sym (slice_get-map (λ d. d.spot.name.0) s.deltas i) ∙ at_i) in
      let g = mapped (λ (d : DeltaDecl). d.spot.name.0) (slice_get s.deltas j) n (sym (slice_get-map (λ d. d.spot.name.0) s.deltas j) ∙ at_j) in
      deltas_once line accepted i j (plain_delta s.names s.exprs f.0) (plain_delta s.names s.exprs g.0) (mapped_at (plain_delta s.names s.exprs) s.deltas i f.0 f.1) (mapped_at (plain_delta s.names s.exprs) s.deltas j g.0 g.1)
      (ap (λ k. unwrap_or (slice_get s.names k) []) (f.2 ∙ sym g.2))

  module _ (fine : IsWellFormed s) (distinct : AreDistinct s.names) (keys : List ℕ) (are : keys ≡ map (λ d. d.spot.name.0) s.deltas) where
    pub numbered : (k : ℕ) (part : PartDecl) → slice_get s.parts k ≡ Some part → All (λ i. number_by keys i < length keys) part.items
    numbered k part at j d low =
        let item = get_or part.items j d in
        let has = got_within part.items j item (slice_get-get_or part.items j d low) in
        let known = item_known s fine distinct keys are k part item at has in
        let in_line = within_flat (λ (p : plain.Part). p.items) line.parts (plain_part s.names s.formulas part) (plain_item s.names s.formulas item)
        (got_within line.parts k (plain_part s.names s.formulas part) (mapped_at (plain_part s.names s.formulas) s.parts k part at)) (mapped_within (plain_item s.names s.formulas) part.items item has) in
        omega (
          arith,
          same_number s fine distinct keys are item known.delta,
          item_has_delta line accepted (plain_item s.names s.formulas item) in_line,
          ap length are,
          length-map s.deltas (λ (d : DeltaDecl). d.spot.name.0),
          length-map s.deltas (plain_delta s.names s.exprs),
        )

-- an element of a list with one more at its end
pub got_pushed : {X : Type 0} (xs : List X) (x : X) (k : ℕ) (y : X) → slice_get (xs ++ x ∷ []) k ≡ Some y → (slice_get xs k ≡ Some y) ⊎ ((k ≡ length xs) × (x ≡ y))
got_pushed [] x zero y e = inr (refl, cc)
got_pushed [] x (suc k) y e = absurd (cc)
got_pushed (z ∷ xs) x zero y e = inl e
got_pushed (z ∷ xs) x (suc k) y e = either (got_pushed xs x k y e) (λ at. inl at) (λ last. inr (ap suc last.0, last.1))

pub parts_of : (s : Source) (placings : List Placing) (numbers : List ℕ) → numbers ≡ map (λ p. p.part) placings → ((delta : ℕ) (p : Placing) → slice_get placings delta ≡ Some p → IsPlaced s delta p)
    → (delta part : ℕ) → slice_get numbers delta ≡ Some part → StandsIn (plain_source s) delta part
parts_of s placings numbers are placed delta part got =
    let p = mapped (λ (p : Placing). p.part) (slice_get placings delta) part (sym (slice_get-map (λ p. p.part) placings delta) ∙ ap (λ ns. slice_get ns delta) (sym are) ∙ got) in
    subst (λ (n : ℕ). StandsIn (plain_source s) delta n) p.2 (placed delta p.0 p.1).stands
