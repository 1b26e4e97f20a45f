use Rattle.dj_parser.proofs.Assembling.{adds_stands, modifies_stands, removes_stands}
use Rattle.dj_parser.proofs.deltas.RawClassOpResolve.resolve.Goals as goal

pub returns-in_ok-resolve-in-Adds-clause-stands : goal.returns-in_ok-resolve-in-Adds-clause-stands
returns-in_ok-resolve-in-Adds-clause-stands c = λ later texts grew.
    rw c.in-Adds.is (adds_stands later (c.in_ok-resolve-in-Adds.ensures.stands later texts grew))

pub returns-in_ok-resolve-in-Modifies-clause-stands : goal.returns-in_ok-resolve-in-Modifies-clause-stands
returns-in_ok-resolve-in-Modifies-clause-stands c = λ later texts grew.
    rw c.in-Modifies.is (modifies_stands later (c.in_ok-resolve-in-Modifies.ensures.stands later texts grew))

pub returns-in_ok-resolve_spot-in-Removes-clause-stands : goal.returns-in_ok-resolve_spot-in-Removes-clause-stands
returns-in_ok-resolve_spot-in-Removes-clause-stands c = λ later texts grew.
    rw c.in-Removes.is (removes_stands later (c.in_ok-resolve_spot-in-Removes.ensures.stands later texts grew))
