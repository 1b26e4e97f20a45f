use Rattle.std.proofs.Common.{◌≡◌, ℕ, None, map, slice_get, Some, refl, sym, ap, ap₂, ◌∙◌, subst}
use Rattle.std.specs.FinMap as finite
use Rattle.std.specs.FinMap.{get}
use Rattle.dj_tree.specs.Plain.{plain_spot}
use Rattle.dj_tree.proofs.Growing.{kept_spot, known_later}
use Rattle.ifj_table.specs.Entries.{plain_class, classes_of, fields_of, plain_field}
use Rattle.ifj_table.specs.Held.{IsFieldEntry}
use Rattle.ifj_table.specs.Changes.{changed_at, with_field}
use Rattle.ifj_table.specs.declared.entry.FieldEntry.{FieldEntry}
use Rattle.ifj_table.specs.declared.entry.ClassEntry.{ClassEntry}
use Rattle.ifj_table.proofs.EntryMaps.{set_itself}
use Rattle.ifj_table.proofs.TableChanges.{with_changed, map_with_changed, unchanged}
use Rattle.ifj_table.proofs.MemberLemmas.{behind, either_way, on_ok, on_err, field_key, stands, is_class, reads, with_fields, field_absent, more_fields, map_more_fields}
use Rattle.ifj_table.proofs.table.Table.add_field.Goals as goal

pub insert_entry-requires-clause-rising : goal.insert_entry-requires-clause-rising
insert_entry-requires-clause-rising c =
    let t = c.spot-2.new.self in
    (is_class t.names t.exprs t.classes.items t.held c.class_place-place.result c.args.class.now c.index_mut.result.now c.class_place-place.ensures c.index_mut.ensures.value).rising_fields

pub insert_entry-requires-clause-absent : goal.insert_entry-requires-clause-absent
insert_entry-requires-clause-absent c =
    let t = c.spot-2.new.self in
    let names = c.spot.new.self.names in
    let old = c.index_mut.result.now in
    let at = c.class_place-place.result in
    let f : FieldEntry = record { spot = c.in_ok-spot.spot; kind = c.in_ok-kind.kind } in
    let means = kept_spot names t.names f.spot c.spot-2.ensures.numbers c.in_ok-spot.ensures.known ∙ c.in_ok-spot.ensures.means in
    let key : field_key t.names f ≡ c.args.field.now = ap (λ s. s.text) means in
    let is = is_class t.names t.exprs t.classes.items t.held at c.args.class.now old c.class_place-place.ensures c.index_mut.ensures.value in
    let before = c.spot-2.ensures.table ∙ c.spot.ensures.table in
    let there = sym (ap (λ m. get m c.args.class.now) before) ∙ reads t.names t.exprs t.classes.items t.held at c.args.class.now old c.class_place-place.ensures c.index_mut.ensures.value in
    let none = sym (behind (λ e. get e.fields c.args.field.now) _ (plain_class t.names t.exprs old) there) ∙ c.requires.absent in
    λ k. subst (λ key. ¬ (slice_get (map (field_key t.names) old.fields.items) k ≡ Some key)) (sym key) (field_absent t.names t.exprs old is c.args.field.now k none)

pub invariant_of-self : goal.invariant_of-self
invariant_of-self c =
    let t = c.spot-2.new.self in
    let names = c.spot.new.self.names in
    let old = c.index_mut.result.now in
    let at = c.class_place-place.result in
    let f : FieldEntry = record { spot = c.in_ok-spot.spot; kind = c.in_ok-kind.kind } in
    let means = kept_spot names t.names f.spot c.spot-2.ensures.numbers c.in_ok-spot.ensures.known ∙ c.in_ok-spot.ensures.means in
    let key : field_key t.names f ≡ c.args.field.now = ap (λ s. s.text) means in
    let is = is_class t.names t.exprs t.classes.items t.held at c.args.class.now old c.class_place-place.ensures c.index_mut.ensures.value in
    let before = c.spot-2.ensures.table ∙ c.spot.ensures.table in
    let there = sym (ap (λ m. get m c.args.class.now) before) ∙ reads t.names t.exprs t.classes.items t.held at c.args.class.now old c.class_place-place.ensures c.index_mut.ensures.value in
    let none = sym (behind (λ e. get e.fields c.args.field.now) _ (plain_class t.names t.exprs old) there) ∙ c.requires.absent in
    let new : ClassEntry = record old { fields = c.insert_entry.new.entries } in
    let known : IsFieldEntry t.names f = record { spot = known_later names t.names f.spot c.spot-2.ensures.numbers c.in_ok-spot.ensures.known; kind = c.in_ok-kind.ensures.known } in
    let place = stands t.names t.exprs t.classes.items t.held at c.args.class.now old c.class_place-place.ensures c.index_mut.ensures.value in
    record {
      held = with_changed t.names t.exprs t.classes.items t.held at old new place refl
          (either_way c.insert_entry.result c.insert_entry.ensures.ok c.insert_entry.ensures.err
          (λ added. let more = more_fields t.names t.exprs old is added.0 f known added.1 in with_fields t.names t.exprs old new is refl refl _ added.2 refl more.0 more.1)
          (λ same. with_fields t.names t.exprs old new is refl refl old.fields.items same refl is.fields is.rising_fields));
    }

pub returns-clause-added : goal.returns-clause-added
returns-clause-added c =
    let t = c.spot-2.new.self in
    let names = c.spot.new.self.names in
    let old = c.index_mut.result.now in
    let at = c.class_place-place.result in
    let f : FieldEntry = record { spot = c.in_ok-spot.spot; kind = c.in_ok-kind.kind } in
    let means = kept_spot names t.names f.spot c.spot-2.ensures.numbers c.in_ok-spot.ensures.known ∙ c.in_ok-spot.ensures.means in
    let key : field_key t.names f ≡ c.args.field.now = ap (λ s. s.text) means in
    let is = is_class t.names t.exprs t.classes.items t.held at c.args.class.now old c.class_place-place.ensures c.index_mut.ensures.value in
    let before = c.spot-2.ensures.table ∙ c.spot.ensures.table in
    let there = sym (ap (λ m. get m c.args.class.now) before) ∙ reads t.names t.exprs t.classes.items t.held at c.args.class.now old c.class_place-place.ensures c.index_mut.ensures.value in
    let none = sym (behind (λ e. get e.fields c.args.field.now) _ (plain_class t.names t.exprs old) there) ∙ c.requires.absent in
    let new : ClassEntry = record old { fields = c.insert_entry.new.entries } in
    let was = plain_class t.names t.exprs old in
    let change = with_field c.args.field.now (record { at = c.args.at; kind = record { text = c.args.kind.now; at = c.args.kind_at } }) in
    on_ok c.insert_entry.result c.insert_entry.ensures.ok
    (λ added. map_with_changed t.names t.exprs t.classes.items t.held at c.args.class.now old new change c.class_place-place.ensures c.index_mut.ensures.value refl
    (ap (λ fs. record was { fields = fs }) (ap (fields_of t.names) added.2
    ∙ map_more_fields t.names t.exprs old is added.0 f (ap (get (fields_of t.names old.fields.items)) key ∙ none)
    ∙ ap₂ (λ k x. finite.insert (fields_of t.names old.fields.items) k x) key (ap₂ (λ a kind. record { at = a; kind = kind }) (ap (λ s. s.at) means) c.in_ok-kind.ensures.means)))
    ∙ ap (λ m. changed_at m c.args.class.now change) before)

pub returns-clause-err : goal.returns-clause-err
returns-clause-err c =
    let t = c.spot-2.new.self in
    let names = c.spot.new.self.names in
    let old = c.index_mut.result.now in
    let at = c.class_place-place.result in
    let f : FieldEntry = record { spot = c.in_ok-spot.spot; kind = c.in_ok-kind.kind } in
    let means = kept_spot names t.names f.spot c.spot-2.ensures.numbers c.in_ok-spot.ensures.known ∙ c.in_ok-spot.ensures.means in
    let key : field_key t.names f ≡ c.args.field.now = ap (λ s. s.text) means in
    let is = is_class t.names t.exprs t.classes.items t.held at c.args.class.now old c.class_place-place.ensures c.index_mut.ensures.value in
    let before = c.spot-2.ensures.table ∙ c.spot.ensures.table in
    let there = sym (ap (λ m. get m c.args.class.now) before) ∙ reads t.names t.exprs t.classes.items t.held at c.args.class.now old c.class_place-place.ensures c.index_mut.ensures.value in
    let none = sym (behind (λ e. get e.fields c.args.field.now) _ (plain_class t.names t.exprs old) there) ∙ c.requires.absent in
    let new : ClassEntry = record old { fields = c.insert_entry.new.entries } in
    let was = plain_class t.names t.exprs old in
    on_err c.insert_entry.result c.insert_entry.ensures.err
    (λ same. map_with_changed t.names t.exprs t.classes.items t.held at c.args.class.now old new (λ e. e) c.class_place-place.ensures c.index_mut.ensures.value refl
    (ap (λ fs. record was { fields = fs }) (ap (fields_of t.names) same)) ∙ unchanged (classes_of t.names t.exprs t.classes.items) c.args.class.now _ (reads t.names t.exprs t.classes.items t.held at c.args.class.now old c.class_place-place.ensures c.index_mut.ensures.value) ∙ before)
