use Rattle.std.proofs.Common.{◌≡◌, ◌<◌, List, slice_get, get_or, Some, length, sym, subst, arith}
use Rattle.std.proofs.lemmas.Option.{slice_get-get_or}
use Rattle.persistent_trie.proofs.Keeping.{keeps_joined}
use Rattle.persistent_trie.specs.Versions.{says}
use Rattle.ifj_table.specs.declared.entry.FieldEntry.{FieldEntry}
use Rattle.ifj_lineages.specs.Overlays.{field_numbers}
use Rattle.ifj_lineages.proofs.Overlaying.{over_next, number_at}
use Rattle.ifj_lineages.proofs.members.put_fields.Goals as goal

pub loop-place-preserved : goal.loop-place-preserved
loop-place-preserved c =
    let fields = c.args.class.now.fields.items in
    let low : c.loop-place.place < length fields = subst (λ (es : List FieldEntry). c.loop-place.place < length es) c.deref-field-items.ensures.value (omega (arith, c.loop-place-test.true)) in
    record {
      version = c.in_ok-now.ensures.version;
      kept = keeps_joined _ _ _ c.loop-place.invariant.kept c.insert.ensures.kept;
      over = over_next (field_numbers fields) c.loop-place.place _ c.args.class.now.spot.name (says c.args.trie.now c.args.root) _ _ c.loop-place.invariant.over
          (subst (λ (es : List FieldEntry). slice_get (field_numbers fields) c.loop-place.place ≡ Some (get_or es c.loop-place.place _).spot.name.0) (sym c.deref-field-items.ensures.value)
          (number_at (λ (f : FieldEntry). f.spot.name.0) fields c.loop-place.place _ (slice_get-get_or fields c.loop-place.place _ low))) c.in_ok-now.ensures.says;
    }
