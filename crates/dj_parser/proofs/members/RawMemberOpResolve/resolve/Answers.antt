use Rattle.dj_parser.proofs.Assembling.{modifies_method_stands, removes_field_stands, removes_method_stands}
use Rattle.dj_parser.proofs.members.RawMemberOpResolve.resolve.Goals as goal

pub returns-in_ok-resolve-in-Modifies-clause-stands : goal.returns-in_ok-resolve-in-Modifies-clause-stands
returns-in_ok-resolve-in-Modifies-clause-stands c = λ later texts grew.
    rw c.in-Modifies.is (modifies_method_stands later (c.in_ok-resolve-in-Modifies.ensures.stands later texts grew))

pub returns-in_ok-resolve_spot-in-RemovesField-clause-stands : goal.returns-in_ok-resolve_spot-in-RemovesField-clause-stands
returns-in_ok-resolve_spot-in-RemovesField-clause-stands c = λ later texts grew.
    rw c.in-RemovesField.is (removes_field_stands later (c.in_ok-resolve_spot-in-RemovesField.ensures.stands later texts grew))

pub returns-in_ok-resolve_spot-in-RemovesMethod-clause-stands : goal.returns-in_ok-resolve_spot-in-RemovesMethod-clause-stands
returns-in_ok-resolve_spot-in-RemovesMethod-clause-stands c = λ later texts grew.
    rw c.in-RemovesMethod.is (removes_method_stands later (c.in_ok-resolve_spot-in-RemovesMethod.ensures.stands later texts grew))

pub returns-in-Adds-clause-stands : goal.returns-in-Adds-clause-stands
returns-in-Adds-clause-stands c = rw c.in-Adds.is c.resolve_added.ensures.stands
