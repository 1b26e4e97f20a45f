use Rattle.dj_declarations.specs.View.{class_op_view}
use Rattle.dj_tree.specs.Plain.{plain_operation}
use Rattle.dj_tree.specs.WellFormed.{IsOperation}
use Rattle.dj_parser.specs.Said.{said_operation}
use Rattle.dj_parser.proofs.Growing.{can_then, grew_then}
use Rattle.dj_parser.proofs.Loops.{can_each, grew_each, stand_each}
use Rattle.dj_parser.proofs.Assembling.{delta_stands}
use Rattle.dj_parser.proofs.deltas.RawDeltaResolve.resolve.Goals as goal

pub resolve_each-requires : goal.resolve_each-requires
resolve_each-requires c = can_each said_operation (class_op_view c.args.bytes.now) c.args.self.now.ops.items c.as_slice.result.now c.as_slice.ensures.value (can_then _ c.requires c.in_ok-spot.ensures.grew)

pub returns-clause-grew : goal.returns-clause-grew
returns-clause-grew c = grew_then c.in_ok-spot.ensures.grew (grew_each said_operation (class_op_view c.args.bytes.now) c.args.self.now.ops.items c.as_slice.result.now c.as_slice.ensures.value c.in_ok-ops.ensures.grew)

pub returns-clause-stands : goal.returns-clause-stands
returns-clause-stands c = λ later texts grew.
    let behind = grew_then c.in_ok-ops.ensures.grew grew in
    delta_stands later (c.in_ok-spot.ensures.stands later _ behind)
    (stand_each (plain_operation later.names later.exprs) (IsOperation later.names later.exprs) (class_op_view c.args.bytes.now) c.args.self.now.ops.items c.as_slice.result.now c.in_ok-ops.ops.items c.from_vec.result
    c.as_slice.ensures.value c.from_vec.ensures (c.in_ok-ops.ensures.stand later _ grew))
