use Rattle.std.proofs.Common.{◌≡◌, ℕ, map, slice_get, Some, sym, subst}
use Rattle.ifj_table.specs.Sorted.{AreRising, IsGap}
use Rattle.ifj_table.proofs.TableLemmas.{class_key, class_absent}
use Rattle.ifj_table.proofs.table.Table.class_gap.Goals as goal

pub gap-requires-clause-rising : goal.gap-requires-clause-rising
gap-requires-clause-rising c = subst (λ es. AreRising (map (class_key c.args.self.now.names) es)) (sym c.deref.ensures.value) c.args.self.now.held.rising

pub gap-requires-clause-absent : goal.gap-requires-clause-absent
gap-requires-clause-absent c =
    let t = c.args.self.now in
    subst (λ es. (at : ℕ) → ¬ (slice_get (map (class_key t.names) es) at ≡ Some c.args.class.now)) (sym c.deref.ensures.value)
    (λ at. class_absent t.names t.exprs t.classes.items t.held c.args.class.now at c.requires)

pub returns : goal.returns
returns c =
    let t = c.args.self.now in
    subst (λ es. IsGap (map (class_key t.names) es) c.args.class.now c.gap.result) c.deref.ensures.value c.gap.ensures
