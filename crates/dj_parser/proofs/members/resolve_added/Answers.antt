use Rattle.dj_parser.proofs.Assembling.{adds_field_stands, adds_method_stands}
use Rattle.dj_parser.proofs.members.resolve_added.Goals as goal

pub returns-in_ok-resolve-in-Field-clause-stands : goal.returns-in_ok-resolve-in-Field-clause-stands
returns-in_ok-resolve-in-Field-clause-stands c = λ later texts grew.
    rw c.in-Field.is (adds_field_stands later (c.in_ok-resolve-in-Field.ensures.stands later texts grew))

pub returns-in_ok-resolve-in-Method-clause-stands : goal.returns-in_ok-resolve-in-Method-clause-stands
returns-in_ok-resolve-in-Method-clause-stands c = λ later texts grew.
    rw c.in-Method.is (adds_method_stands later (c.in_ok-resolve-in-Method.ensures.stands later texts grew))
