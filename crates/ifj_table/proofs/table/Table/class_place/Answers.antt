use Rattle.std.proofs.Common.{◌≡◌, ℕ, map, slice_get, Some, sym, subst}
use Rattle.ifj_table.specs.Sorted.{AreRising}
use Rattle.ifj_table.proofs.TableLemmas.{class_key, class_there}
use Rattle.ifj_table.proofs.table.Table.class_place.Goals as goal

pub place-requires-clause-rising : goal.place-requires-clause-rising
place-requires-clause-rising c = subst (λ es. AreRising (map (class_key c.args.self.now.names) es)) (sym c.deref.ensures.value) c.args.self.now.held.rising

pub place-requires-clause-there : goal.place-requires-clause-there
place-requires-clause-there c =
    let t = c.args.self.now in
    subst (λ es. (at : ℕ) × (slice_get (map (class_key t.names) es) at ≡ Some c.args.class.now)) (sym c.deref.ensures.value)
    (class_there t.names t.exprs t.classes.items t.held c.args.class.now c.requires)

pub returns : goal.returns
returns c =
    let t = c.args.self.now in
    subst (λ es. slice_get (map (class_key t.names) es) c.place.result ≡ Some c.args.class.now) c.deref.ensures.value c.place.ensures
