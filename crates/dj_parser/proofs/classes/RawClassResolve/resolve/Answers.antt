use Rattle.dj_parser.proofs.Growing.{can_first, can_then, grew_then}
use Rattle.dj_parser.proofs.Assembling.{class_stands}
use Rattle.dj_parser.proofs.classes.RawClassResolve.resolve.Goals as goal

pub resolve_optional-requires : goal.resolve_optional-requires
resolve_optional-requires c = can_first _ (can_then _ c.requires c.in_ok-spot.ensures.grew)

pub resolve_fields-requires : goal.resolve_fields-requires
resolve_fields-requires c = rw c.as_slice.ensures.value (can_first _ (can_then _ (can_then _ c.requires c.in_ok-spot.ensures.grew) c.in_ok-parent.ensures.grew))

pub resolve_methods-requires : goal.resolve_methods-requires
resolve_methods-requires c =
    let fields = rw c.as_slice.ensures.value at c.in_ok-fields.ensures.grew in
    rw c.as_slice-2.ensures.value (can_then _ (can_then _ (can_then _ c.requires c.in_ok-spot.ensures.grew) c.in_ok-parent.ensures.grew) fields)

pub returns-clause-grew : goal.returns-clause-grew
returns-clause-grew c =
    let fields = rw c.as_slice.ensures.value at c.in_ok-fields.ensures.grew in
    let methods = rw c.as_slice-2.ensures.value at c.in_ok-methods.ensures.grew in
    grew_then c.in_ok-spot.ensures.grew (grew_then c.in_ok-parent.ensures.grew (grew_then fields methods))

pub returns-clause-stands : goal.returns-clause-stands
returns-clause-stands c = λ later texts grew.
    let methods = grew_then c.in_ok-methods.ensures.grew grew in
    let fields = grew_then c.in_ok-fields.ensures.grew methods in
    let all = grew_then c.in_ok-parent.ensures.grew fields in
    class_stands later (c.in_ok-spot.ensures.stands later _ all) (c.in_ok-parent.ensures.stands later _ fields)
    (rw (← c.as_slice.ensures.value, c.from_vec.ensures) (c.in_ok-fields.ensures.stand later _ methods))
    (rw (← c.as_slice-2.ensures.value, c.from_vec-2.ensures) (c.in_ok-methods.ensures.stand later _ grew))
