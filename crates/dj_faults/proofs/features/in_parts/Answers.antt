use Rattle.std.proofs.Common.{◌≡◌, Some, slice_get, refl, subst}
use Rattle.std.proofs.lemmas.Option.{slice_get_read}
use Rattle.dj_tree.specs.Plain.{plain_source, plain_item}
use Rattle.dj_faults.specs.LeastPlace.{IsLeastPlace, Among}
use Rattle.dj_faults.specs.Inside.{UnknownInItem}
use Rattle.dj_faults.proofs.LeastLemmas.{among_next}
use Rattle.dj_faults.proofs.features.in_parts.Goals as goal

pub loop-part-preserved : goal.loop-part-preserved
loop-part-preserved c =
    let s = c.args.source.now in
    let there : slice_get s.parts c.loop-part.part-index ≡ Some c.part-item.result =
    subst (λ xs. slice_get xs c.loop-part.part-index ≡ Some c.part-item.result) c.as_slice-part-items.ensures (slice_get_read _ _ c.loop-part.part-index c.part-item.result refl c.loop-part-test.true c.part-item.is) in
    rw c.earlier-least.ensures
    (among_next (λ x. Among (λ i. UnknownInItem (plain_source s).features (plain_item s.names s.formulas i)) x.items) s.parts c.loop-part.part-index c.part-item.result _ _ there c.loop-part.invariant
    (subst (λ xs. IsLeastPlace (Among (λ i. UnknownInItem (plain_source s).features (plain_item s.names s.formulas i)) xs) c.in_ok-here.here) c.as_slice.ensures c.in_ok-here.ensures))
