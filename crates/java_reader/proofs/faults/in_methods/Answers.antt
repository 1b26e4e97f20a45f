use Rattle.std.proofs.Common.{refl}
use Rattle.std.proofs.lemmas.Option.{slice_get_read}
use Rattle.dj_tree.specs.Plain.{plain_method}
use Rattle.dj_faults.proofs.LeastLemmas.{among_next}
use Rattle.java_reader.specs.Faults.{ParameterTwice}
use Rattle.java_reader.proofs.faults.in_methods.Goals as goal

pub loop-method-preserved : goal.loop-method-preserved
loop-method-preserved c =
    let s = c.args.source.now in
    let there = slice_get_read c.args.methods.now _ c.loop-method.method-index c.method-item.result refl c.loop-method-test.true c.method-item.is in
    rw c.earlier-least.ensures
    (among_next (λ m. ParameterTwice (plain_method s.names s.exprs m)) c.args.methods.now c.loop-method.method-index c.method-item.result _ _ there c.loop-method.invariant c.in_ok-here.ensures)
