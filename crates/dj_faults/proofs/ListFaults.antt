-- The faults of features, deltas, items and parts, by lists of names.
use Rattle.std.proofs.Common.{◌≡◌, ℕ, ◌<◌, ◌≤◌, List, [], ◌∷◌, ◌++◌, length, map, Option, None, Some, IfSome, refl, sym, ap, ◌∙◌, subst, get_or, slice_get, arith}
use Rattle.std.specs.List.{filter_map, flat_map}
use Rattle.std.specs.Option.{option_map}
use Rattle.std.proofs.lemmas.List.Elements.{All-contains}
use Rattle.std.proofs.lemmas.Option.{slice_get-map, slice_get-get_or, slice_get_within}
use Rattle.std.proofs.lemmas.List.{map-append}
use Rattle.dj_calculus.proofs.Members.{same_some, mapped, filtered_from, kept_by, mapped_within, mapped_from, from_flat}
use Rattle.dj_names.specs.Texts.{Text}
use Rattle.dj_tree.specs.Trees as plain
use Rattle.dj_tree.specs.Plain.{plain_spot, plain_source, plain_item, plain_part, plain_delta}
use Rattle.dj_tree.specs.WellFormed.{IsKnown, IsDelta, IsPart, IsItem}
use Rattle.dj_tree.specs.declared.declarations.Spot.{Spot}
use Rattle.dj_tree.specs.declared.declarations.DeltaDecl.{DeltaDecl}
use Rattle.dj_tree.specs.declared.declarations.Item.{Item}
use Rattle.dj_tree.specs.declared.declarations.PartDecl.{PartDecl}
use Rattle.dj_tree.specs.declared.formula.FormulaNode.{FormulaNode}
use Rattle.dj_tree.specs.declared.source.Source.{Source}
use Rattle.dj_calculus.specs.Contents.{items_of}
use Rattle.dj_calculus.specs.Configurations.{is_named}
use Rattle.dj_calculus.specs.Faults.{RepeatedFeature, TooManyFeatures, RepeatedDelta, UnknownDelta, DeltaNotPlaced, DeltaPlacedTwice, RepeatedPart, UnknownPart}
use Rattle.dj_calculus.specs.FaultPlaces.{most_features, Repeats, FaultStands, too_many_features, repeated_feature, repeated_delta, unknown_delta, delta_not_placed, delta_placed_twice, repeated_part, unknown_part}
use Rattle.dj_faults.specs.LeastPlace.{IsLeastPlace, Among}
use Rattle.dj_faults.specs.Numbers.{Again, Unmet, IsSound}
use Rattle.dj_faults.proofs.LeastLemmas.{least_same, least_nowhere}
use Rattle.dj_faults.proofs.NameLemmas.{map_named, filter_named, AllKnown, Unnamed, least_repeats, least_unknown}

-- the names of the items, which the code gathers part by part
items_named : (names : List Text) (formulas : List FormulaNode) (parts : List PartDecl)
    → map (λ i. i.delta) (flat_map (λ p. p.items) (map (plain_part names formulas) parts)) ≡ map (plain_spot names) (flat_map (λ p. map (λ i. i.delta) p.items) parts)
items_named names formulas [] = refl
items_named names formulas (p ∷ parts) =
    map-append (λ i. i.delta) (map (plain_item names formulas) p.items) _
    ∙ ap (λ zs. map (λ i. i.delta) (map (plain_item names formulas) p.items) ++ zs) (items_named names formulas parts)
    ∙ ap (λ zs. zs ++ map (plain_spot names) (flat_map (λ p. map (λ i. i.delta) p.items) parts)) (map_named (λ i. i.delta) (λ i. i.delta) (plain_item names formulas) (plain_spot names) (λ i. refl) p.items)
    ∙ sym (map-append (plain_spot names) (map (λ i. i.delta) p.items) (flat_map (λ p. map (λ i. i.delta) p.items) parts))

module _ (s : Source) (sound : IsSound s) where
  -- ---- the names as the code gathers them

  pub known_features : AllKnown s.names s.features
  known_features x there = All-contains (IsKnown s.names) s.features x sound.formed.features there

  known_deltas : AllKnown s.names (map (λ d. d.spot) s.deltas)
  known_deltas x there =
      let d = mapped_from (λ (d : DeltaDecl). d.spot) s.deltas x there in
      subst (IsKnown s.names) d.2 (All-contains (IsDelta s.names s.exprs) s.deltas d.0 sound.formed.deltas d.1).spot

  pub known_parts : AllKnown s.names (map (λ p. p.spot) s.parts)
  known_parts x there =
      let p = mapped_from (λ (p : PartDecl). p.spot) s.parts x there in
      subst (IsKnown s.names) p.2 (All-contains (IsPart s.names s.formulas) s.parts p.0 sound.formed.parts p.1).spot

  known_items : AllKnown s.names (flat_map (λ p. map (λ i. i.delta) p.items) s.parts)
  known_items x there =
      let p = from_flat (λ (p : PartDecl). map (λ i. i.delta) p.items) s.parts x there in
      let i = mapped_from (λ (i : Item). i.delta) p.0.items x p.2 in
      let items = (All-contains (IsPart s.names s.formulas) s.parts p.0 sound.formed.parts p.1).items in
      subst (IsKnown s.names) i.2 (All-contains (IsItem s.names s.formulas) p.0.items i.0 items i.1).delta

  known_after : (x : Spot) (o : Option Spot) → IfSome o (IsKnown s.names) → o ≡ Some x → IsKnown s.names x
  known_after x None known e = absurd cc
  known_after x (Some y) known e = let same : y ≡ x = cc in subst (IsKnown s.names) same known

  known_afters : AllKnown s.names (filter_map (λ p. p.after) s.parts)
  known_afters x there =
      let p = filtered_from (λ (p : PartDecl). p.after) s.parts x there in
      known_after x p.0.after (All-contains (IsPart s.names s.formulas) s.parts p.0 sound.formed.parts p.1).after p.2

  deltas_named : map (λ d. d.name) (plain_source s).deltas ≡ map (plain_spot s.names) (map (λ d. d.spot) s.deltas)
  deltas_named = map_named (λ d. d.spot) (λ d. d.name) (plain_delta s.names s.exprs) (plain_spot s.names) (λ d. refl) s.deltas

  pub parts_named : map (λ p. p.name) (plain_source s).parts ≡ map (plain_spot s.names) (map (λ p. p.spot) s.parts)
  parts_named = map_named (λ p. p.spot) (λ p. p.name) (plain_part s.names s.formulas) (plain_spot s.names) (λ p. refl) s.parts

  afters_named : filter_map (λ p. p.after) (plain_source s).parts ≡ map (plain_spot s.names) (filter_map (λ p. p.after) s.parts)
  afters_named = filter_named (λ p. p.after) (λ p. p.after) (plain_part s.names s.formulas) (plain_spot s.names) (λ p. refl) s.parts

  -- ---- the least repeated one, and the least that is none of the others

  pub by_repeats : (spots : List Spot) (o : Option ℕ) (xs : List plain.Spot) → AllKnown s.names spots → xs ≡ map (plain_spot s.names) spots → IsLeastPlace (Again spots (length spots)) o → IsLeastPlace (Repeats xs) o
  by_repeats spots o xs known e is = subst (λ zs. IsLeastPlace (Repeats zs) o) (sym e) (least_repeats s.names sound.distinct spots o known is)

  pub by_unknown : (spots others : List Spot) (o : Option ℕ) (xs ys : List plain.Spot) → AllKnown s.names spots → AllKnown s.names others → xs ≡ map (plain_spot s.names) spots → ys ≡ map (plain_spot s.names) others
      → IsLeastPlace (Among (Unmet others) spots) o → IsLeastPlace (Unnamed xs ys) o
  by_unknown spots others o xs ys known both e f is =
      subst (λ zs. IsLeastPlace (Unnamed zs ys) o) (sym e) (subst (λ zs. IsLeastPlace (Unnamed (map (plain_spot s.names) spots) zs) o) (sym f)
      (least_unknown s.names sound.distinct spots others o known both is))

  -- ---- each fault

  pub least_repeated_feature : (o : Option ℕ) → IsLeastPlace (Again s.features (length s.features)) o → IsLeastPlace (FaultStands (plain_source s) RepeatedFeature) o
  least_repeated_feature o is = least_same o repeated_feature back (by_repeats s.features o _ known_features refl is)
    where
      back : (at : ℕ) → FaultStands (plain_source s) RepeatedFeature at → Repeats (plain_source s).features at
      back at (repeated_feature place h) = h

  pub least_too_many : (d : Spot) → most_features < length s.features → IsLeastPlace (FaultStands (plain_source s) TooManyFeatures) (Some (get_or s.features most_features d).at)
  least_too_many d low = record { stands = too_many_features (plain_spot s.names (get_or s.features most_features d)) there; least = back }
    where
      there : slice_get (plain_source s).features most_features ≡ Some (plain_spot s.names (get_or s.features most_features d))
      there = slice_get-map (plain_spot s.names) s.features most_features ∙ ap (option_map (plain_spot s.names)) (slice_get-get_or s.features most_features d low)

      same_place : (x y : plain.Spot) (o : Option plain.Spot) → o ≡ Some x → o ≡ Some y → x.at ≤ y.at
      same_place x y o e f = let same = ap (λ (z : plain.Spot). z.at) (same_some x y o e f) in omega (arith, same)

      back : (at : ℕ) → FaultStands (plain_source s) TooManyFeatures at → (get_or s.features most_features d).at ≤ at
      back at (too_many_features x e) = same_place (plain_spot s.names (get_or s.features most_features d)) x (slice_get (plain_source s).features most_features) there e

  pub least_not_too_many : length s.features ≤ most_features → IsLeastPlace (FaultStands (plain_source s) TooManyFeatures) None
  least_not_too_many high = least_nowhere _ back
    where
      back : (at : ℕ) → FaultStands (plain_source s) TooManyFeatures at → ⊥
      back at (too_many_features x e) =
          let a = mapped (plain_spot s.names) (slice_get s.features most_features) x (sym (slice_get-map (plain_spot s.names) s.features most_features) ∙ e) in
          let low = slice_get_within s.features most_features a.0 a.1 in
          omega (arith, low, high)

  pub least_repeated_delta : (spots : List Spot) (o : Option ℕ) → spots ≡ map (λ d. d.spot) s.deltas → IsLeastPlace (Again spots (length spots)) o → IsLeastPlace (FaultStands (plain_source s) RepeatedDelta) o
  least_repeated_delta spots o e is =
      least_same o repeated_delta back (by_repeats _ o _ known_deltas deltas_named (subst (λ zs. IsLeastPlace (Again zs (length zs)) o) e is))
    where
      back : (at : ℕ) → FaultStands (plain_source s) RepeatedDelta at → Repeats (map (λ d. d.name) (plain_source s).deltas) at
      back at (repeated_delta place h) = h

  pub least_placed_twice : (spots : List Spot) (o : Option ℕ) → spots ≡ flat_map (λ p. map (λ i. i.delta) p.items) s.parts → IsLeastPlace (Again spots (length spots)) o → IsLeastPlace (FaultStands (plain_source s) DeltaPlacedTwice) o
  least_placed_twice spots o e is =
      least_same o delta_placed_twice back (by_repeats _ o _ known_items (items_named s.names s.formulas s.parts) (subst (λ zs. IsLeastPlace (Again zs (length zs)) o) e is))
    where
      back : (at : ℕ) → FaultStands (plain_source s) DeltaPlacedTwice at → Repeats (map (λ i. i.delta) (items_of (plain_source s))) at
      back at (delta_placed_twice place h) = h

  pub least_repeated_part : (spots : List Spot) (o : Option ℕ) → spots ≡ map (λ p. p.spot) s.parts → IsLeastPlace (Again spots (length spots)) o → IsLeastPlace (FaultStands (plain_source s) RepeatedPart) o
  least_repeated_part spots o e is =
      least_same o repeated_part back (by_repeats _ o _ known_parts parts_named (subst (λ zs. IsLeastPlace (Again zs (length zs)) o) e is))
    where
      back : (at : ℕ) → FaultStands (plain_source s) RepeatedPart at → Repeats (map (λ p. p.name) (plain_source s).parts) at
      back at (repeated_part place h) = h

  pub least_unknown_delta : (spots others : List Spot) (o : Option ℕ) → spots ≡ flat_map (λ p. map (λ i. i.delta) p.items) s.parts → others ≡ map (λ d. d.spot) s.deltas
      → IsLeastPlace (Among (Unmet others) spots) o → IsLeastPlace (FaultStands (plain_source s) UnknownDelta) o
  least_unknown_delta spots others o e f is =
      least_same o to back (by_unknown _ _ o _ _ known_items known_deltas (items_named s.names s.formulas s.parts) deltas_named
      (subst (λ zs. IsLeastPlace (Among (Unmet (map (λ d. d.spot) s.deltas)) zs) o) e (subst (λ zs. IsLeastPlace (Among (Unmet zs) spots) o) f is)))
    where
      to : (at : ℕ) → Unnamed (map (λ i. i.delta) (items_of (plain_source s))) (map (λ d. d.name) (plain_source s).deltas) at → FaultStands (plain_source s) UnknownDelta at
      to at h =
          let i = mapped_from (λ (i : plain.Item). i.delta) (items_of (plain_source s)) h.x h.within in
          subst (FaultStands (plain_source s) UnknownDelta) (ap (λ x. x.at) i.2 ∙ h.here)
          (unknown_delta i.0 i.1 (ap (λ (x : plain.Spot). is_named (map (λ d. d.name) (plain_source s).deltas) x.text) i.2 ∙ h.unnamed))

      back : (at : ℕ) → FaultStands (plain_source s) UnknownDelta at → Unnamed (map (λ i. i.delta) (items_of (plain_source s))) (map (λ d. d.name) (plain_source s).deltas) at
      back at (unknown_delta i within un) = record { x = i.delta; within = mapped_within (λ (i : plain.Item). i.delta) (items_of (plain_source s)) i within; unnamed = un; here = refl }

  pub least_not_placed : (spots others : List Spot) (o : Option ℕ) → spots ≡ map (λ d. d.spot) s.deltas → others ≡ flat_map (λ p. map (λ i. i.delta) p.items) s.parts
      → IsLeastPlace (Among (Unmet others) spots) o → IsLeastPlace (FaultStands (plain_source s) DeltaNotPlaced) o
  least_not_placed spots others o e f is =
      least_same o to back (by_unknown _ _ o _ _ known_deltas known_items deltas_named (items_named s.names s.formulas s.parts)
      (subst (λ zs. IsLeastPlace (Among (Unmet (flat_map (λ p. map (λ i. i.delta) p.items) s.parts)) zs) o) e (subst (λ zs. IsLeastPlace (Among (Unmet zs) spots) o) f is)))
    where
      to : (at : ℕ) → Unnamed (map (λ d. d.name) (plain_source s).deltas) (map (λ i. i.delta) (items_of (plain_source s))) at → FaultStands (plain_source s) DeltaNotPlaced at
      to at h =
          let d = mapped_from (λ (d : plain.Delta). d.name) (plain_source s).deltas h.x h.within in
          subst (FaultStands (plain_source s) DeltaNotPlaced) (ap (λ x. x.at) d.2 ∙ h.here)
          (delta_not_placed d.0 d.1 (ap (λ (x : plain.Spot). is_named (map (λ i. i.delta) (items_of (plain_source s))) x.text) d.2 ∙ h.unnamed))

      back : (at : ℕ) → FaultStands (plain_source s) DeltaNotPlaced at → Unnamed (map (λ d. d.name) (plain_source s).deltas) (map (λ i. i.delta) (items_of (plain_source s))) at
      back at (delta_not_placed d within un) = record { x = d.name; within = mapped_within (λ (d : plain.Delta). d.name) (plain_source s).deltas d within; unnamed = un; here = refl }

  pub least_unknown_part : (spots others : List Spot) (o : Option ℕ) → spots ≡ filter_map (λ p. p.after) s.parts → others ≡ map (λ p. p.spot) s.parts
      → IsLeastPlace (Among (Unmet others) spots) o → IsLeastPlace (FaultStands (plain_source s) UnknownPart) o
  least_unknown_part spots others o e f is =
      least_same o to back (by_unknown _ _ o _ _ known_afters known_parts afters_named parts_named
      (subst (λ zs. IsLeastPlace (Among (Unmet (map (λ p. p.spot) s.parts)) zs) o) e (subst (λ zs. IsLeastPlace (Among (Unmet zs) spots) o) f is)))
    where
      to : (at : ℕ) → Unnamed (filter_map (λ p. p.after) (plain_source s).parts) (map (λ p. p.name) (plain_source s).parts) at → FaultStands (plain_source s) UnknownPart at
      to at h =
          let p = filtered_from (λ (p : plain.Part). p.after) (plain_source s).parts h.x h.within in
          subst (FaultStands (plain_source s) UnknownPart) h.here (unknown_part p.0 h.x p.1 p.2 h.unnamed)

      back : (at : ℕ) → FaultStands (plain_source s) UnknownPart at → Unnamed (filter_map (λ p. p.after) (plain_source s).parts) (map (λ p. p.name) (plain_source s).parts) at
      back at (unknown_part p after within is un) = record { x = after; within = kept_by (λ (p : plain.Part). p.after) (plain_source s).parts p after within is; unnamed = un; here = refl }
