use Rattle.dj_parser.proofs.Growing.{grew_then}
use Rattle.dj_parser.proofs.Assembling.{field_stands}
use Rattle.dj_parser.proofs.members.RawFieldResolve.resolve.Goals as goal

pub returns-clause-stands : goal.returns-clause-stands
returns-clause-stands c = λ later texts grew.
    field_stands later (c.in_ok-kind.ensures.stands later _ (grew_then c.in_ok-spot.ensures.grew grew)) (c.in_ok-spot.ensures.stands later _ grew)
