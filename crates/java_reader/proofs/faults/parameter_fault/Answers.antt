use Rattle.std.proofs.Common.{◌≡◌, ◌≤◌, List, Some, length, slice_get, refl, subst}
use Rattle.std.proofs.lemmas.Option.{slice_get_read}
use Rattle.dj_tree.specs.Plain.{plain_method}
use Rattle.dj_tree.specs.declared.declarations.ClassDecl.{ClassDecl}
use Rattle.dj_faults.specs.LeastPlace.{IsLeastPlace, Among}
use Rattle.dj_faults.proofs.LeastLemmas.{among_next, among_all}
use Rattle.java_reader.specs.Faults.{ParameterTwice}
use Rattle.java_reader.proofs.FaultLemmas.{least_parameter}
use Rattle.java_reader.proofs.faults.parameter_fault.Goals as goal

pub loop-class-preserved : goal.loop-class-preserved
loop-class-preserved c =
    let s = c.args.source.now in
    let there : slice_get s.classes c.loop-class.class-index ≡ Some c.class-item.result =
    subst (λ xs. slice_get xs c.loop-class.class-index ≡ Some c.class-item.result) c.as_slice-class-items.ensures (slice_get_read _ _ c.loop-class.class-index c.class-item.result refl c.loop-class-test.true c.class-item.is) in
    rw c.earlier-least.ensures
    (among_next (λ x. Among (λ m. ParameterTwice (plain_method s.names s.exprs m)) x.methods) s.classes c.loop-class.class-index c.class-item.result _ _ there c.loop-class.invariant
    (subst (λ ms. IsLeastPlace (Among (λ m. ParameterTwice (plain_method s.names s.exprs m)) ms) c.in_ok-here.here) c.as_slice.ensures c.in_ok-here.ensures))

pub returns : goal.returns
returns c =
    let s = c.args.source.now in
    let high : length s.classes ≤ c.loop-class.class-index = subst (λ (xs : List ClassDecl). length xs ≤ c.loop-class.class-index) c.as_slice-class-items.ensures c.loop-class-test.false in
    least_parameter s.names s.exprs s.classes c.loop-class.least
    (among_all (λ x. Among (λ m. ParameterTwice (plain_method s.names s.exprs m)) x.methods) s.classes c.loop-class.class-index c.loop-class.least high c.loop-class.invariant)
