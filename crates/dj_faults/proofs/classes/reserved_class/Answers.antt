use Rattle.dj_tree.specs.declared.declarations.DeltaDecl.{DeltaDecl}
use Rattle.std.proofs.Common.{◌≡◌, ◌≤◌, List, length, Some, slice_get, refl, subst}
use Rattle.std.proofs.lemmas.Option.{slice_get_read}
use Rattle.dj_tree.specs.Plain.{plain_operation}
use Rattle.dj_faults.specs.LeastPlace.{IsLeastPlace, Among}
use Rattle.dj_faults.specs.Inside.{OnObject}
use Rattle.dj_faults.proofs.OperationFaults.{least_reserved_class}
use Rattle.dj_faults.proofs.LeastLemmas.{among_next, among_all}
use Rattle.dj_faults.proofs.classes.reserved_class.Goals as goal

pub loop-delta-preserved : goal.loop-delta-preserved
loop-delta-preserved c =
    let s = c.args.source.now in
    let there : slice_get s.deltas c.loop-delta.delta-index ≡ Some c.delta-item.result =
    subst (λ xs. slice_get xs c.loop-delta.delta-index ≡ Some c.delta-item.result) c.as_slice-delta-items.ensures (slice_get_read _ _ c.loop-delta.delta-index c.delta-item.result refl c.loop-delta-test.true c.delta-item.is) in
    rw c.earlier-least.ensures
    (among_next (λ x. Among (λ o. OnObject (plain_operation s.names s.exprs o)) x.ops) s.deltas c.loop-delta.delta-index c.delta-item.result _ _ there c.loop-delta.invariant
    (subst (λ xs. IsLeastPlace (Among (λ o. OnObject (plain_operation s.names s.exprs o)) xs) c.objects-here.result) c.as_slice.ensures c.objects-here.ensures))

pub returns : goal.returns
returns c =
    let s = c.args.source.now in
    let high : length s.deltas ≤ c.loop-delta.delta-index = subst (λ (xs : List DeltaDecl). length xs ≤ c.loop-delta.delta-index) c.as_slice-delta-items.ensures c.loop-delta-test.false in
    least_reserved_class s c.loop-delta.least (among_all (λ d. Among (λ o. OnObject (plain_operation s.names s.exprs o)) d.ops) s.deltas c.loop-delta.delta-index c.loop-delta.least high c.loop-delta.invariant)
