use Rattle.std.proofs.Common.{sym, subst}
use Rattle.std.proofs.lemmas.Result.{IfOk-weaker}
use Rattle.dj_tree.specs.Plain.{plain_method, plain_member, plain_operation}
use Rattle.dj_faults.specs.LeastPlace.{Among}
use Rattle.dj_faults.specs.Inside.{InMethod, InMember, InMethods}
use Rattle.dj_faults.specs.Places.{AreLeast, place_of}
use Rattle.dj_faults.proofs.InsideLemmas.{least_mapped}
use Rattle.dj_faults.proofs.InsidePlaces.{nowhere_at}
use Rattle.dj_faults.proofs.operations.in_methods.Goals as goal

pub returns-in-Adds : goal.returns-in-Adds
returns-in-Adds c =
    let s = c.args.source.now in
    IfOk-weaker c.in_class.result _ _
    (λ o is. subst (λ operation. AreLeast (λ fault. InMethods fault (plain_operation s.names s.exprs operation)) o) (sym c.in-Adds.is)
    (λ fault. least_mapped (InMethod fault) (plain_method s.names s.exprs) c.in-Adds.class.methods (place_of o fault)
    (subst (λ ms. AreLeast (λ fault. Among (λ m. InMethod fault (plain_method s.names s.exprs m)) ms) o) c.as_slice.ensures is fault))) c.in_class.ensures

pub returns-in-Modifies : goal.returns-in-Modifies
returns-in-Modifies c =
    let s = c.args.source.now in
    IfOk-weaker c.in_change.result _ _
    (λ o is. subst (λ operation. AreLeast (λ fault. InMethods fault (plain_operation s.names s.exprs operation)) o) (sym c.in-Modifies.is)
    (λ fault. least_mapped (InMember fault) (plain_member s.names s.exprs) c.in-Modifies.change.members (place_of o fault)
    (subst (λ ms. AreLeast (λ fault. Among (λ m. InMember fault (plain_member s.names s.exprs m)) ms) o) c.as_slice-in-Modifies.ensures is fault))) c.in_change.ensures

pub returns-in-Removes : goal.returns-in-Removes
returns-in-Removes c =
    let s = c.args.source.now in
    subst (λ operation. AreLeast (λ fault. InMethods fault (plain_operation s.names s.exprs operation)) c.nowhere.result) (sym c.in-Removes.is)
    (nowhere_at _ c.nowhere.result (λ fault at h. h) c.nowhere.ensures)
