use Rattle.std.proofs.Common.{◌≡◌, ◌<◌, List, slice_get, get_or, Some, length, subst, arith}
use Rattle.persistent_trie.proofs.Keeping.{keeps_joined}
use Rattle.persistent_trie.specs.Versions.{says}
use Rattle.ifj_table.specs.declared.entry.MethodEntry.{MethodEntry}
use Rattle.ifj_table.proofs.TableLemmas.{element_is}
use Rattle.ifj_lineages.specs.Overlays.{method_numbers}
use Rattle.ifj_lineages.proofs.Overlaying.{over_next, number_at}
use Rattle.ifj_lineages.proofs.members.put_methods.Goals as goal

pub loop-place-preserved : goal.loop-place-preserved
loop-place-preserved c =
    let methods = c.args.class.now.methods.items in
    let method = c.method-item.result in
    let low : c.loop-place.place < length methods = subst (λ (es : List MethodEntry). c.loop-place.place < length es) c.deref-method-items.ensures.value (omega (arith, c.loop-place-test.true)) in
    let here : slice_get methods c.loop-place.place ≡ Some method =
    element_is methods c.loop-place.place method low (subst (λ (es : List MethodEntry). method ≡ get_or es c.loop-place.place method) c.deref-method-items.ensures.value c.method-item.is) in
    record {
      version = c.in_ok-now.ensures.version;
      kept = keeps_joined _ _ _ c.loop-place.invariant.kept c.insert.ensures.kept;
      over = over_next (method_numbers methods) c.loop-place.place _ c.args.class.now.spot.name (says c.args.trie.now c.args.root) _ _ c.loop-place.invariant.over
          (number_at (λ (m : MethodEntry). m.spot.name.0) methods c.loop-place.place method here) c.in_ok-now.ensures.says;
    }
