use Rattle.dj_parser.proofs.Growing.{can_then, grew_then}
use Rattle.dj_parser.proofs.Assembling.{item_stands}
use Rattle.dj_parser.proofs.parts.RawItemResolve.resolve.Goals as goal

pub resolve_condition-requires : goal.resolve_condition-requires
resolve_condition-requires c = can_then _ c.requires c.in_ok-delta.ensures.grew

pub returns-clause-grew : goal.returns-clause-grew
returns-clause-grew c = grew_then c.in_ok-delta.ensures.grew c.in_ok-when.ensures.grew

pub returns-clause-stands : goal.returns-clause-stands
returns-clause-stands c = λ later texts grew.
    item_stands later (c.in_ok-delta.ensures.stands later _ (grew_then c.in_ok-when.ensures.grew grew)) (c.in_ok-when.ensures.stands later _ grew)
