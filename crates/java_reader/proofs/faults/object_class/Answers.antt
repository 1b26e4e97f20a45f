use Rattle.std.proofs.Common.{◌≡◌, Some, slice_get, refl, subst}
use Rattle.std.proofs.lemmas.Option.{slice_get_read}
use Rattle.dj_tree.specs.Plain.{plain_spot}
use Rattle.dj_faults.proofs.LeastLemmas.{among_next}
use Rattle.java_reader.specs.Faults.{IsObject}
use Rattle.java_reader.proofs.faults.object_class.Goals as goal

pub loop-class-preserved : goal.loop-class-preserved
loop-class-preserved c =
    let s = c.args.source.now in
    let there : slice_get s.classes c.loop-class.class-index ≡ Some c.class-item.result =
    subst (λ xs. slice_get xs c.loop-class.class-index ≡ Some c.class-item.result) c.as_slice-class-items.ensures (slice_get_read _ _ c.loop-class.class-index c.class-item.result refl c.loop-class-test.true c.class-item.is) in
    rw c.earlier-least.ensures (among_next (λ x. IsObject (plain_spot s.names x.spot)) s.classes c.loop-class.class-index c.class-item.result _ _ there c.loop-class.invariant c.object_at-here.ensures)
