use Rattle.dj_declarations.specs.View.{field_view}
use Rattle.dj_tree.specs.Plain.{plain_field}
use Rattle.dj_tree.specs.WellFormed.{IsField}
use Rattle.dj_parser.specs.Said.{said_field}
use Rattle.dj_parser.proofs.Growing.{can_first, can_then, grew_then}
use Rattle.dj_parser.proofs.Loops.{can_each, grew_each, stand_each}
use Rattle.dj_parser.proofs.Assembling.{method_stands}
use Rattle.dj_parser.proofs.members.RawMethodResolve.resolve.Goals as goal

pub resolve-requires : goal.resolve-requires
resolve-requires c = can_first _ c.requires

pub resolve_each-requires : goal.resolve_each-requires
resolve_each-requires c =
    can_each said_field (field_view c.args.bytes.now) c.args.self.now.parameters.items c.as_slice.result.now c.as_slice.ensures.value
    (can_first _ (can_then _ c.requires c.in_ok-declared.ensures.grew))

pub resolve_expr-requires : goal.resolve_expr-requires
resolve_expr-requires c =
    can_then _ (can_then _ c.requires c.in_ok-declared.ensures.grew)
    (grew_each said_field (field_view c.args.bytes.now) c.args.self.now.parameters.items c.as_slice.result.now c.as_slice.ensures.value c.in_ok-parameters.ensures.grew)

pub returns-clause-grew : goal.returns-clause-grew
returns-clause-grew c =
    grew_then c.in_ok-declared.ensures.grew
    (grew_then
    (grew_each said_field (field_view c.args.bytes.now) c.args.self.now.parameters.items c.as_slice.result.now c.as_slice.ensures.value c.in_ok-parameters.ensures.grew)
    c.in_ok-body.ensures.grew)

pub returns-clause-stands : goal.returns-clause-stands
returns-clause-stands c = λ later texts grew.
    let behind = grew_then c.in_ok-body.ensures.grew grew in
    method_stands later (c.in_ok-declared.ensures.stands later _ (grew_then c.in_ok-parameters.ensures.grew behind))
    (stand_each (plain_field later.names) (IsField later.names) (field_view c.args.bytes.now) c.args.self.now.parameters.items c.as_slice.result.now c.in_ok-parameters.parameters.items c.from_vec.result
    c.as_slice.ensures.value c.from_vec.ensures (c.in_ok-parameters.ensures.stand later _ behind))
    (c.in_ok-body.ensures.stands later _ grew)
