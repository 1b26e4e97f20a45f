use Rattle.std.proofs.Common.{◌≡◌, ℕ, map, slice_get, Some, sym, subst}
use Rattle.ifj_table.specs.Entries.{text_at}
use Rattle.ifj_table.specs.Sorted.{AreRising, IsGap}
use Rattle.ifj_table.proofs.keyed.insert_entry.Goals as goal

pub gap-at-requires-clause-rising : goal.gap-at-requires-clause-rising
gap-at-requires-clause-rising g c = subst (λ es. AreRising (map (λ (e : g.row.E.Denot). text_at c.args.names.now (g.E.Keyed.key_of e)) es)) (sym c.as_slice.ensures.value) c.requires.rising
