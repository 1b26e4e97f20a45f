use Rattle.std.proofs.Common.{◌∙◌, ◌∷◌, [], ap, map, get_or, length, refl}
use Rattle.std.proofs.lemmas.List.{map-append}
use Rattle.std.proofs.lemmas.Option.{slice_get-get_or, slice_get_read}
use Rattle.dj_line.specs.Numbering.{number_by}
use Rattle.dj_line.proofs.Filling.{items_next}
use Rattle.dj_line.proofs.acceptance.chain_items.Goals as goal

pub loop-part-preserved : goal.loop-part-preserved
loop-part-preserved c =
    let parts = c.args.parts.now in
    let chain = c.args.chain.now in
    let k = c.loop-part.part-index in
    let part = c.index-parts-part.result in
    items_next (number_by c.args.deltas.now.keys) parts chain k (get_or chain k 0) part (slice_get-get_or chain k 0 c.loop-part-test.true)
    (slice_get_read parts (length parts) (get_or chain k 0) part refl (c.requires.within k 0 c.loop-part-test.true) c.index-parts-part.is)
    (map (λ v. v.items) c.loop-part.items.items) _ c.in_ok-item_numbers.field-0.items (c.in_ok-item_numbers.ensures ∙ ap (map (number_by c.args.deltas.now.keys)) c.as_slice.ensures)
    (ap (map (λ v. v.items)) c.in_ok-push.ensures.items ∙ map-append (λ v. v.items) c.loop-part.items.items (c.in_ok-item_numbers.field-0 ∷ [])) c.loop-part.invariant
