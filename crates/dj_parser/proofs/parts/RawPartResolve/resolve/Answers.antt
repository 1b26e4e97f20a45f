use Rattle.dj_declarations.specs.View.{item_view}
use Rattle.dj_tree.specs.Plain.{plain_item}
use Rattle.dj_tree.specs.WellFormed.{IsItem}
use Rattle.dj_parser.specs.Said.{said_item}
use Rattle.dj_parser.proofs.Growing.{can_first, can_then, grew_then}
use Rattle.dj_parser.proofs.Loops.{can_each, grew_each, stand_each}
use Rattle.dj_parser.proofs.Assembling.{part_stands}
use Rattle.dj_parser.proofs.parts.RawPartResolve.resolve.Goals as goal

pub resolve_optional-requires : goal.resolve_optional-requires
resolve_optional-requires c = can_first _ (can_then _ c.requires c.in_ok-spot.ensures.grew)

pub resolve_each-requires : goal.resolve_each-requires
resolve_each-requires c = can_each said_item (item_view c.args.bytes.now) c.args.self.now.items.items c.as_slice.result.now c.as_slice.ensures.value (can_then _ (can_then _ c.requires c.in_ok-spot.ensures.grew) c.in_ok-after.ensures.grew)

pub returns-clause-grew : goal.returns-clause-grew
returns-clause-grew c = grew_then c.in_ok-spot.ensures.grew (grew_then c.in_ok-after.ensures.grew (grew_each said_item (item_view c.args.bytes.now) c.args.self.now.items.items c.as_slice.result.now c.as_slice.ensures.value c.in_ok-items.ensures.grew))

pub returns-clause-stands : goal.returns-clause-stands
returns-clause-stands c = λ later texts grew.
    let behind = grew_then c.in_ok-items.ensures.grew grew in
    part_stands later (c.in_ok-spot.ensures.stands later _ (grew_then c.in_ok-after.ensures.grew behind))
    (c.in_ok-after.ensures.stands later _ behind)
    (stand_each (plain_item later.names later.formulas) (IsItem later.names later.formulas) (item_view c.args.bytes.now) c.args.self.now.items.items c.as_slice.result.now c.in_ok-items.items.items c.from_vec.result
    c.as_slice.ensures.value c.from_vec.ensures (c.in_ok-items.ensures.stand later _ grew))
