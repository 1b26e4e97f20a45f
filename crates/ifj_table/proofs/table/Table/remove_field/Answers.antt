use Rattle.std.proofs.Common.{◌≡◌, ℕ, map, slice_get, Some, refl, sym, ap, ◌∙◌, subst}
use Rattle.std.specs.Prelude.{IsSome}
use Rattle.std.specs.FinMap.{get}
use Rattle.ifj_table.specs.Entries.{plain_class, fields_of}
use Rattle.ifj_table.specs.Changes.{without_field}
use Rattle.ifj_table.specs.declared.entry.ClassEntry.{ClassEntry}
use Rattle.ifj_table.proofs.TableChanges.{with_changed, map_with_changed}
use Rattle.ifj_table.proofs.MemberLemmas.{behind, stands, is_class, reads, with_fields, field_there, fewer_fields, map_fewer_fields}
use Rattle.ifj_table.proofs.table.Table.remove_field.Goals as goal

pub remove_entry-requires-clause-rising : goal.remove_entry-requires-clause-rising
remove_entry-requires-clause-rising c =
    let t = c.args.self.now in
    (is_class t.names t.exprs t.classes.items t.held c.class_place-place.result c.args.class.now c.index_mut.result.now c.class_place-place.ensures c.index_mut.ensures.value).rising_fields

pub remove_entry-requires-clause-there : goal.remove_entry-requires-clause-there
remove_entry-requires-clause-there c =
    let t = c.args.self.now in
    let old = c.index_mut.result.now in
    let at = c.class_place-place.result in
    let is = is_class t.names t.exprs t.classes.items t.held at c.args.class.now old c.class_place-place.ensures c.index_mut.ensures.value in
    let there = reads t.names t.exprs t.classes.items t.held at c.args.class.now old c.class_place-place.ensures c.index_mut.ensures.value in
    field_there t.names t.exprs old is c.args.field.now (subst IsSome (behind (λ e. get e.fields c.args.field.now) _ (plain_class t.names t.exprs old) there) c.requires.field_there)

pub invariant_of-self : goal.invariant_of-self
invariant_of-self c =
    let t = c.args.self.now in
    let old = c.index_mut.result.now in
    let at = c.class_place-place.result in
    let is = is_class t.names t.exprs t.classes.items t.held at c.args.class.now old c.class_place-place.ensures c.index_mut.ensures.value in
    let new : ClassEntry = record old { fields = c.remove_entry.new.entries } in
    let fewer = fewer_fields t.names t.exprs old is c.remove_entry.ensures.0 in
    record {
      held = with_changed t.names t.exprs t.classes.items t.held at old new (stands t.names t.exprs t.classes.items t.held at c.args.class.now old c.class_place-place.ensures c.index_mut.ensures.value) refl
          (with_fields t.names t.exprs old new is refl refl _ c.remove_entry.ensures.2 refl fewer.0 fewer.1);
    }

pub returns-clause-removed : goal.returns-clause-removed
returns-clause-removed c =
    let t = c.args.self.now in
    let old = c.index_mut.result.now in
    let at = c.class_place-place.result in
    let is = is_class t.names t.exprs t.classes.items t.held at c.args.class.now old c.class_place-place.ensures c.index_mut.ensures.value in
    let new : ClassEntry = record old { fields = c.remove_entry.new.entries } in
    let before = plain_class t.names t.exprs old in
    map_with_changed t.names t.exprs t.classes.items t.held at c.args.class.now old new (without_field c.args.field.now) c.class_place-place.ensures c.index_mut.ensures.value refl
    (ap (λ fs. record before { fields = fs }) (ap (fields_of t.names) c.remove_entry.ensures.2 ∙ map_fewer_fields t.names t.exprs old is c.remove_entry.ensures.0 c.args.field.now c.remove_entry.ensures.1))
