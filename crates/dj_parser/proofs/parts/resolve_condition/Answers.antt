use Rattle.dj_parser.proofs.Assembling.{some_stands}
use Rattle.dj_parser.proofs.parts.resolve_condition.Goals as goal

pub returns-in_ok-resolve_formula-in-Some-clause-stands : goal.returns-in_ok-resolve_formula-in-Some-clause-stands
returns-in_ok-resolve_formula-in-Some-clause-stands c = λ later texts grew.
    rw c.in-Some.is (some_stands (c.in_ok-resolve_formula-in-Some.ensures.stands later texts grew))
