use Rattle.std.proofs.Common.{◌≡◌, ℕ, None, map, slice_get, Some, refl, sym, ap, ap₂, ◌∙◌, subst}
use Rattle.std.specs.Prelude.{IsSome}
use Rattle.std.specs.FinMap as finite
use Rattle.std.specs.FinMap.{get}
use Rattle.dj_tree.specs.Plain.{plain_method as plain_declared}
use Rattle.dj_calculus.specs.Entries.{method_entry as plain_entry}
use Rattle.ifj_table.specs.Entries.{plain_class, classes_of, methods_of, plain_method}
use Rattle.ifj_table.specs.Changes.{changed_at, with_method}
use Rattle.ifj_table.specs.declared.entry.ClassEntry.{ClassEntry}
use Rattle.ifj_table.proofs.TableChanges.{with_changed, map_with_changed}
use Rattle.ifj_table.proofs.MemberLemmas.{behind, method_key, stands, is_class, reads, with_methods, method_there, set_methods, map_set_methods}
use Rattle.ifj_table.proofs.table.Table.put_body.Goals as goal

pub replace_entry-requires-clause-rising : goal.replace_entry-requires-clause-rising
replace_entry-requires-clause-rising c =
    let t = c.method_entry.new.self in
    (is_class t.names t.exprs t.classes.items t.held c.class_place-place.result c.args.class.now c.index_mut.result.now c.class_place-place.ensures c.index_mut.ensures.value).rising_methods

pub replace_entry-requires-clause-there : goal.replace_entry-requires-clause-there
replace_entry-requires-clause-there c =
    let t = c.method_entry.new.self in
    let m = plain_declared c.args.from.now c.args.exprs.now c.args.method.now in
    let entry = c.in_ok-entry.entry in
    let old = c.index_mut.result.now in
    let at = c.class_place-place.result in
    let key : method_key t.names entry ≡ m.name.text = c.in_ok-entry.ensures.name in
    let is = is_class t.names t.exprs t.classes.items t.held at c.args.class.now old c.class_place-place.ensures c.index_mut.ensures.value in
    let before = c.method_entry.ensures.table in
    let there = sym (ap (λ t. get t c.args.class.now) before) ∙ reads t.names t.exprs t.classes.items t.held at c.args.class.now old c.class_place-place.ensures c.index_mut.ensures.value in
    subst (λ key. (k : ℕ) × (slice_get (map (method_key t.names) old.methods.items) k ≡ Some key)) (sym key)
    (method_there t.names t.exprs old is m.name.text (subst IsSome (behind (λ e. get e.methods m.name.text) _ (plain_class t.names t.exprs old) there) c.requires.method_there))

pub invariant_of-self : goal.invariant_of-self
invariant_of-self c =
    let t = c.method_entry.new.self in
    let m = plain_declared c.args.from.now c.args.exprs.now c.args.method.now in
    let entry = c.in_ok-entry.entry in
    let old = c.index_mut.result.now in
    let at = c.class_place-place.result in
    let key : method_key t.names entry ≡ m.name.text = c.in_ok-entry.ensures.name in
    let is = is_class t.names t.exprs t.classes.items t.held at c.args.class.now old c.class_place-place.ensures c.index_mut.ensures.value in
    let before = c.method_entry.ensures.table in
    let there = sym (ap (λ t. get t c.args.class.now) before) ∙ reads t.names t.exprs t.classes.items t.held at c.args.class.now old c.class_place-place.ensures c.index_mut.ensures.value in
    let new : ClassEntry = record old { methods = c.replace_entry.new.entries } in
    let place = stands t.names t.exprs t.classes.items t.held at c.args.class.now old c.class_place-place.ensures c.index_mut.ensures.value in
    let put = set_methods t.names t.exprs old is c.replace_entry.ensures.0 entry c.in_ok-entry.ensures.own c.replace_entry.ensures.1 in
    record { held = with_changed t.names t.exprs t.classes.items t.held at old new place refl (with_methods t.names t.exprs old new is refl refl _ refl c.replace_entry.ensures.2 put.0 put.1) }

pub returns-clause-put : goal.returns-clause-put
returns-clause-put c =
    let t = c.method_entry.new.self in
    let m = plain_declared c.args.from.now c.args.exprs.now c.args.method.now in
    let entry = c.in_ok-entry.entry in
    let old = c.index_mut.result.now in
    let at = c.class_place-place.result in
    let key : method_key t.names entry ≡ m.name.text = c.in_ok-entry.ensures.name in
    let is = is_class t.names t.exprs t.classes.items t.held at c.args.class.now old c.class_place-place.ensures c.index_mut.ensures.value in
    let before = c.method_entry.ensures.table in
    let there = sym (ap (λ t. get t c.args.class.now) before) ∙ reads t.names t.exprs t.classes.items t.held at c.args.class.now old c.class_place-place.ensures c.index_mut.ensures.value in
    let new : ClassEntry = record old { methods = c.replace_entry.new.entries } in
    let was = plain_class t.names t.exprs old in
    let change = with_method m.name.text (plain_entry m) in
    map_with_changed t.names t.exprs t.classes.items t.held at c.args.class.now old new change c.class_place-place.ensures c.index_mut.ensures.value refl
    (ap (λ ms. record was { methods = ms }) (ap (methods_of t.names t.exprs) c.replace_entry.ensures.2
    ∙ map_set_methods t.names t.exprs old is c.replace_entry.ensures.0 entry c.replace_entry.ensures.1
    ∙ ap₂ (λ k x. finite.insert (methods_of t.names t.exprs old.methods.items) k x) key c.in_ok-entry.ensures.entry))
    ∙ ap (λ t. changed_at t c.args.class.now change) before
