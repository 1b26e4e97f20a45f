use Rattle.std.proofs.Common.{◌≡◌, ◌≤◌, List, length, Some, slice_get, refl, subst}
use Rattle.std.proofs.lemmas.Option.{slice_get_read}
use Rattle.dj_tree.specs.Plain.{plain_operation}
use Rattle.dj_tree.specs.declared.declarations.DeltaDecl.{DeltaDecl}
use Rattle.dj_faults.specs.Inside.{InOperations}
use Rattle.dj_faults.specs.Places.{AreLeast}
use Rattle.dj_faults.proofs.InsidePlaces.{each_next, each_all, nowhere_among}
use Rattle.dj_faults.proofs.OperationFaults.{least_inside}
use Rattle.dj_faults.proofs.operations.in_deltas.Goals as goal

pub loop-delta-init : goal.loop-delta-init
loop-delta-init c = nowhere_among _ c.nowhere-least.result c.args.source.now.deltas c.nowhere-least.ensures

pub loop-delta-preserved : goal.loop-delta-preserved
loop-delta-preserved c =
    let s = c.args.source.now in
    let there : slice_get s.deltas c.loop-delta.delta-index ≡ Some c.delta-item.result =
    subst (λ xs. slice_get xs c.loop-delta.delta-index ≡ Some c.delta-item.result) c.as_slice-delta-items.ensures (slice_get_read _ _ c.loop-delta.delta-index c.delta-item.result refl c.loop-delta-test.true c.delta-item.is) in
    each_next (λ fault d. InOperations (plain_operation s.names s.exprs) fault d.ops) s.deltas c.loop-delta.delta-index c.delta-item.result _ _ _ there c.earlier_each-least.ensures c.loop-delta.invariant
    (subst (λ xs. AreLeast (λ fault. InOperations (plain_operation s.names s.exprs) fault xs) c.in_ok-here.here) c.as_slice.ensures c.in_ok-here.ensures)

pub returns : goal.returns
returns c =
    let s = c.args.source.now in
    let high : length s.deltas ≤ c.loop-delta.delta-index = subst (λ (xs : List DeltaDecl). length xs ≤ c.loop-delta.delta-index) c.as_slice-delta-items.ensures c.loop-delta-test.false in
    λ fault. least_inside s fault _ (each_all (λ fault d. InOperations (plain_operation s.names s.exprs) fault d.ops) s.deltas c.loop-delta.delta-index c.loop-delta.least high c.loop-delta.invariant fault)
