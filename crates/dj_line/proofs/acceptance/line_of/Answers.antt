use Rattle.std.proofs.Common.{◌≡◌, ◌∙◌, ℕ, ◌<◌, List, Some, length, map, slice_get, All, ap, sym, subst, arith}
use Rattle.std.proofs.lemmas.List.{length-map}
use Rattle.std.proofs.lemmas.Option.{slice_get_within}
use Rattle.dj_tree.specs.Plain.{plain_source, plain_delta, plain_part}
use Rattle.dj_tree.specs.declared.declarations.Spot.{Spot}
use Rattle.dj_tree.specs.declared.declarations.DeltaDecl.{DeltaDecl}
use Rattle.dj_tree.specs.declared.declarations.PartDecl.{PartDecl}
use Rattle.dj_line.specs.Placing.{numbers_of}
use Rattle.dj_line.specs.Numbering.{StandOnce, number_by, HasItems, ArePlaced}
use Rattle.dj_line.proofs.LineOf.{features_stand_once, deltas_stand_once, numbered}
use Rattle.dj_line.proofs.Bridge.{along, is_placed}
use Rattle.dj_line.proofs.Rising.{chain_at_most}
use Rattle.dj_line.proofs.acceptance.line_of.Goals as goal

pub feature_names-requires : goal.feature_names-requires
feature_names-requires c =
    let P : List Spot → Type 0 = λ features. StandOnce (map (λ f. f.name.0) features) in
    subst P (sym c.as_slice.ensures) (features_stand_once c.args.source c.requires.accepted)

pub delta_names-requires : goal.delta_names-requires
delta_names-requires c =
    let P : List DeltaDecl → Type 0 = λ deltas. StandOnce (map (λ d. d.spot.name.0) deltas) in
    subst P (sym c.as_slice-2.ensures) (deltas_stand_once c.args.source c.requires.accepted)

pub chain_placings-requires-clause-few_parts : goal.chain_placings-requires-clause-few_parts
chain_placings-requires-clause-few_parts c =
    let s = c.args.source in
    omega (arith, chain_at_most (plain_source s) c.args.chain.now (length s.parts) (length-map s.parts (plain_part s.names s.formulas)) c.requires.within c.requires.chain, c.few_parts.ensures)

pub chain_placings-requires-clause-numbered : goal.chain_placings-requires-clause-numbered
chain_placings-requires-clause-numbered c =
    let keys = c.in_ok-deltas.deltas.keys in
    let are = c.in_ok-deltas.ensures ∙ ap (map (λ d. d.spot.name.0)) c.as_slice-2.ensures in
    let P : List PartDecl → Type 0 = λ parts. (k : ℕ) (part : PartDecl) → slice_get parts k ≡ Some part → All (λ i. number_by keys i < length keys) part.items in
    subst P (sym c.as_slice-4.ensures) (numbered c.args.source c.requires.accepted c.requires.well_formed c.requires.distinct keys are)

pub finished-requires-clause-items : goal.finished-requires-clause-items
finished-requires-clause-items c =
    let s = c.args.source in
    let keys = c.in_ok-deltas.deltas.keys in
    let are = c.in_ok-deltas.ensures ∙ ap (map (λ d. d.spot.name.0)) c.as_slice-2.ensures in
    let P : List PartDecl → Type 0 = λ parts. HasItems (number_by keys) parts c.args.chain.now (map (λ v. v.items) c.in_ok-items.items.items) in
    along s c.requires.well_formed c.requires.distinct keys are c.args.chain.now (map (λ v. v.items) c.in_ok-items.items.items) (subst P c.as_slice-3.ensures c.in_ok-items.ensures)
    ∙ ap (map (numbers_of (plain_source s))) c.requires.chain

pub finished-requires-clause-placed : goal.finished-requires-clause-placed
finished-requires-clause-placed c = λ delta p got.
    let s = c.args.source in
    let keys = c.in_ok-deltas.deltas.keys in
    let are = c.in_ok-deltas.ensures ∙ ap (map (λ d. d.spot.name.0)) c.as_slice-2.ensures in
    let chain = c.args.chain.now in
    let P : List PartDecl → Type 0 = λ parts. HasItems (number_by keys) parts chain (map (λ v. v.items) c.in_ok-items.items.items) in
    let Q : List PartDecl → Type 0 = λ parts. ArePlaced (number_by keys) parts chain (length chain) c.in_ok-placings.placings.items in
    let there = ap (λ ps. slice_get ps delta) (sym c.deref.ensures.value) ∙ got in
    is_placed s c.requires.well_formed c.requires.distinct keys are c.requires.accepted chain c.requires.chain c.in_ok-placings.placings.items (map (λ v. v.items) c.in_ok-items.items.items)
    (subst P c.as_slice-3.ensures c.in_ok-items.ensures) (subst Q c.as_slice-4.ensures c.in_ok-placings.ensures.placed) delta p
    (omega (arith, slice_get_within c.in_ok-placings.placings.items delta p there, c.in_ok-placings.ensures.count, ap length are, length-map s.deltas (λ (d : DeltaDecl). d.spot.name.0), length-map s.deltas (plain_delta s.names s.exprs))) there
