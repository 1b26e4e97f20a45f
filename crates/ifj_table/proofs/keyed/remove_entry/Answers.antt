use Rattle.std.proofs.Common.{◌≡◌, ℕ, map, slice_get, Some, sym, ap, ◌∙◌, subst, arith}
use Rattle.ifj_table.specs.Entries.{text_at}
use Rattle.ifj_table.specs.Sorted.{AreRising}
use Rattle.ifj_table.proofs.TableLemmas.{place_within}
use Rattle.ifj_table.proofs.keyed.remove_entry.Goals as goal

pub place-at-requires-clause-rising : goal.place-at-requires-clause-rising
place-at-requires-clause-rising g c = subst (λ es. AreRising (map (λ (e : g.row.E.Denot). text_at c.args.names.now (g.E.Keyed.key_of e)) es)) (sym c.as_slice.ensures.value) c.requires.rising

pub remove-requires : goal.remove-requires
remove-requires g c =
    let f = λ (e : g.row.E.Denot). text_at c.args.names.now (g.E.Keyed.key_of e) in
    omega (arith, place_within f c.args.entries.now.items c.place-at.result c.args.text.now (subst (λ es. slice_get (map f es) c.place-at.result ≡ Some c.args.text.now) c.as_slice.ensures.value c.place-at.ensures), c.args.entries.now.ok.0)
