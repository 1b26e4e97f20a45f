use Rattle.std.proofs.Common.{map, subst}
use Rattle.dj_tree.specs.Plain.{plain_spot}
use Rattle.dj_calculus.specs.FaultPlaces.{Repeats}
use Rattle.dj_faults.specs.LeastPlace.{IsLeastPlace}
use Rattle.java_reader.proofs.FaultLemmas.{least_class}
use Rattle.java_reader.proofs.faults.class_fault.Goals as goal

pub returns : goal.returns
returns c =
    let s = c.args.source.now in
    rw c.earlier.ensures
    (least_class s.names s.exprs s.classes _ _ (subst (λ cs. IsLeastPlace (Repeats (map (λ d. plain_spot s.names d.spot) cs)) c.in_ok-again.again) c.as_slice.ensures c.in_ok-again.ensures)
    c.object_class-object.ensures)
