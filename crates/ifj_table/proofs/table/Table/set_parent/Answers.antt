use Rattle.std.proofs.Common.{◌≡◌, refl, sym, ap, ◌∙◌, subst}
use Rattle.ifj_table.specs.Entries.{plain_class}
use Rattle.ifj_table.specs.Held.{IsClassEntry}
use Rattle.ifj_table.specs.Changes.{changed_at, with_parent}
use Rattle.ifj_table.proofs.TableLemmas.{class_key, all_at, place_within, element_is}
use Rattle.ifj_table.proofs.TableChanges.{with_changed, map_with_changed}
use Rattle.ifj_table.proofs.table.Table.set_parent.Goals as goal

pub invariant_of-self : goal.invariant_of-self
invariant_of-self c =
    let t = c.spot.new.self in
    let at = c.class_place-at.result in
    let old = c.index_mut.result.now in
    let here = element_is t.classes.items at old (place_within (class_key t.names) t.classes.items at c.args.class.now c.class_place-at.ensures) c.index_mut.ensures.value in
    let was = all_at (IsClassEntry t.names t.exprs) t.classes.items at old t.held.each here in
    record {
      held = with_changed t.names t.exprs t.classes.items t.held at old (record old { parent = c.in_ok-parent.parent }) here refl
          (record { spot = was.spot; parent = c.in_ok-parent.ensures.known; declarable = was.declarable; fields = was.fields; rising_fields = was.rising_fields; methods = was.methods; rising_methods = was.rising_methods });
    }

pub returns-clause-changed : goal.returns-clause-changed
returns-clause-changed c =
    let t = c.spot.new.self in
    let at = c.class_place-at.result in
    let old = c.index_mut.result.now in
    let before = plain_class t.names t.exprs old in
    map_with_changed t.names t.exprs t.classes.items t.held at c.args.class.now old (record old { parent = c.in_ok-parent.parent }) (with_parent (record { text = c.args.parent.now; at = c.args.parent_at }))
    c.class_place-at.ensures c.index_mut.ensures.value refl (ap (λ p. record before { parent = p }) c.in_ok-parent.ensures.means)
    ∙ ap (λ m. changed_at m c.args.class.now (with_parent (record { text = c.args.parent.now; at = c.args.parent_at }))) c.spot.ensures.table
