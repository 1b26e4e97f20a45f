use Rattle.std.proofs.Common.{◌≡◌, ℕ, None, map, slice_get, Some, refl, sym, ap, ap₂, ◌∙◌, subst}
use Rattle.std.specs.Prelude.{IsSome}
use Rattle.std.specs.FinMap as finite
use Rattle.std.specs.FinMap.{get}
use Rattle.dj_tree.specs.Plain.{plain_method as plain_declared}
use Rattle.dj_calculus.specs.Entries.{method_entry as plain_entry}
use Rattle.ifj_table.specs.Entries.{plain_class, classes_of, methods_of, plain_method}
use Rattle.ifj_table.specs.Changes.{changed_at, with_method}
use Rattle.ifj_table.specs.declared.entry.ClassEntry.{ClassEntry}
use Rattle.ifj_table.proofs.TableChanges.{with_changed, map_with_changed, unchanged}
use Rattle.ifj_table.proofs.MemberLemmas.{behind, either_way, on_ok, on_err, method_key, stands, is_class, reads, with_methods, method_absent, more_methods, map_more_methods}
use Rattle.ifj_table.proofs.table.Table.add_method.Goals as goal

pub insert_entry-requires-clause-rising : goal.insert_entry-requires-clause-rising
insert_entry-requires-clause-rising c =
    let t = c.method_entry.new.self in
    (is_class t.names t.exprs t.classes.items t.held c.class_place-place.result c.args.class.now c.index_mut.result.now c.class_place-place.ensures c.index_mut.ensures.value).rising_methods

pub insert_entry-requires-clause-absent : goal.insert_entry-requires-clause-absent
insert_entry-requires-clause-absent c =
    let t = c.method_entry.new.self in
    let m = plain_declared c.args.from.now c.args.exprs.now c.args.method.now in
    let entry = c.in_ok-entry.entry in
    let old = c.index_mut.result.now in
    let at = c.class_place-place.result in
    let key : method_key t.names entry ≡ m.name.text = c.in_ok-entry.ensures.name in
    let is = is_class t.names t.exprs t.classes.items t.held at c.args.class.now old c.class_place-place.ensures c.index_mut.ensures.value in
    let before = c.method_entry.ensures.table in
    let there = sym (ap (λ t. get t c.args.class.now) before) ∙ reads t.names t.exprs t.classes.items t.held at c.args.class.now old c.class_place-place.ensures c.index_mut.ensures.value in
    let none = sym (behind (λ e. get e.methods m.name.text) _ (plain_class t.names t.exprs old) there) ∙ c.requires.absent in
    λ k. subst (λ key. ¬ (slice_get (map (method_key t.names) old.methods.items) k ≡ Some key)) (sym key) (method_absent t.names t.exprs old is m.name.text k none)

pub invariant_of-self : goal.invariant_of-self
invariant_of-self c =
    let t = c.method_entry.new.self in
    let m = plain_declared c.args.from.now c.args.exprs.now c.args.method.now in
    let entry = c.in_ok-entry.entry in
    let old = c.index_mut.result.now in
    let at = c.class_place-place.result in
    let key : method_key t.names entry ≡ m.name.text = c.in_ok-entry.ensures.name in
    let is = is_class t.names t.exprs t.classes.items t.held at c.args.class.now old c.class_place-place.ensures c.index_mut.ensures.value in
    let before = c.method_entry.ensures.table in
    let there = sym (ap (λ t. get t c.args.class.now) before) ∙ reads t.names t.exprs t.classes.items t.held at c.args.class.now old c.class_place-place.ensures c.index_mut.ensures.value in
    let new : ClassEntry = record old { methods = c.insert_entry.new.entries } in
    let place = stands t.names t.exprs t.classes.items t.held at c.args.class.now old c.class_place-place.ensures c.index_mut.ensures.value in
    record {
      held = with_changed t.names t.exprs t.classes.items t.held at old new place refl
          (either_way c.insert_entry.result c.insert_entry.ensures.ok c.insert_entry.ensures.err
          (λ added. let more = more_methods t.names t.exprs old is added.0 entry c.in_ok-entry.ensures.own added.1 in with_methods t.names t.exprs old new is refl refl _ refl added.2 more.0 more.1)
          (λ same. with_methods t.names t.exprs old new is refl refl old.methods.items refl same is.methods is.rising_methods));
    }

pub returns-clause-added : goal.returns-clause-added
returns-clause-added c =
    let t = c.method_entry.new.self in
    let m = plain_declared c.args.from.now c.args.exprs.now c.args.method.now in
    let entry = c.in_ok-entry.entry in
    let old = c.index_mut.result.now in
    let at = c.class_place-place.result in
    let key : method_key t.names entry ≡ m.name.text = c.in_ok-entry.ensures.name in
    let is = is_class t.names t.exprs t.classes.items t.held at c.args.class.now old c.class_place-place.ensures c.index_mut.ensures.value in
    let before = c.method_entry.ensures.table in
    let there = sym (ap (λ t. get t c.args.class.now) before) ∙ reads t.names t.exprs t.classes.items t.held at c.args.class.now old c.class_place-place.ensures c.index_mut.ensures.value in
    let none = sym (behind (λ e. get e.methods m.name.text) _ (plain_class t.names t.exprs old) there) ∙ c.requires.absent in
    let new : ClassEntry = record old { methods = c.insert_entry.new.entries } in
    let was = plain_class t.names t.exprs old in
    let change = with_method m.name.text (plain_entry m) in
    on_ok c.insert_entry.result c.insert_entry.ensures.ok
    (λ added. map_with_changed t.names t.exprs t.classes.items t.held at c.args.class.now old new change c.class_place-place.ensures c.index_mut.ensures.value refl
    (ap (λ ms. record was { methods = ms }) (ap (methods_of t.names t.exprs) added.2
    ∙ map_more_methods t.names t.exprs old is added.0 entry (ap (get (methods_of t.names t.exprs old.methods.items)) key ∙ none)
    ∙ ap₂ (λ k x. finite.insert (methods_of t.names t.exprs old.methods.items) k x) key c.in_ok-entry.ensures.entry))
    ∙ ap (λ t. changed_at t c.args.class.now change) before)

pub returns-clause-err : goal.returns-clause-err
returns-clause-err c =
    let t = c.method_entry.new.self in
    let m = plain_declared c.args.from.now c.args.exprs.now c.args.method.now in
    let entry = c.in_ok-entry.entry in
    let old = c.index_mut.result.now in
    let at = c.class_place-place.result in
    let key : method_key t.names entry ≡ m.name.text = c.in_ok-entry.ensures.name in
    let is = is_class t.names t.exprs t.classes.items t.held at c.args.class.now old c.class_place-place.ensures c.index_mut.ensures.value in
    let before = c.method_entry.ensures.table in
    let there = sym (ap (λ t. get t c.args.class.now) before) ∙ reads t.names t.exprs t.classes.items t.held at c.args.class.now old c.class_place-place.ensures c.index_mut.ensures.value in
    let new : ClassEntry = record old { methods = c.insert_entry.new.entries } in
    let was = plain_class t.names t.exprs old in
    on_err c.insert_entry.result c.insert_entry.ensures.err
    (λ same. map_with_changed t.names t.exprs t.classes.items t.held at c.args.class.now old new (λ e. e) c.class_place-place.ensures c.index_mut.ensures.value refl
    (ap (λ ms. record was { methods = ms }) (ap (methods_of t.names t.exprs) same)) ∙ unchanged (classes_of t.names t.exprs t.classes.items) c.args.class.now _ (reads t.names t.exprs t.classes.items t.held at c.args.class.now old c.class_place-place.ensures c.index_mut.ensures.value) ∙ before)
