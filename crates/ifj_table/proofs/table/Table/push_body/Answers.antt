use Rattle.std.proofs.Common.{◌≡◌, ℕ, None, map, slice_get, Some, refl, sym, ap, ap₂, ◌∙◌, subst}
use Rattle.std.specs.Prelude.{IsSome, IfSome, IsTrue}
use Rattle.std.specs.FinMap as finite
use Rattle.std.specs.FinMap.{get}
use Rattle.dj_tree.specs.Trees.{Spot}
use Rattle.dj_tree.specs.Plain.{plain_method as plain_declared}
use Rattle.dj_calculus.specs.Entries.{signature_of, same_signature}
use Rattle.ifj_table.specs.Entries.{text_at, plain_class, classes_of, methods_of}
use Rattle.ifj_table.specs.Redeclared.{IsRedeclaredAmong}
use Rattle.ifj_table.specs.Changes.{changed_at, with_body, pushed_body}
use Rattle.ifj_table.specs.declared.entry.ClassEntry.{ClassEntry}
use Rattle.ifj_table.proofs.TableChanges.{with_changed, map_with_changed, unchanged, changed_there}
use Rattle.ifj_table.proofs.MemberLemmas.{if_some, behind, some_value, either_way, on_ok, on_err, method_key, stands, is_class, reads, with_methods, method_there, same_methods, redeclared}
use Rattle.ifj_table.proofs.table.Table.push_body.Goals as goal

pub redeclare-requires-clause-rising : goal.redeclare-requires-clause-rising
redeclare-requires-clause-rising c =
    let t = c.own_declaration.new.self in
    (is_class t.names t.exprs t.classes.items t.held c.class_place-place.result c.args.class.now c.index_mut.result.now c.class_place-place.ensures c.index_mut.ensures.value).rising_methods

pub redeclare-requires-clause-there : goal.redeclare-requires-clause-there
redeclare-requires-clause-there c =
    let t = c.own_declaration.new.self in
    let m = plain_declared c.args.from.now c.args.exprs.now c.args.method.now in
    let own = c.in_ok-own.own in
    let says = c.in_ok-own.ensures in
    let old = c.index_mut.result.now in
    let at = c.class_place-place.result in
    let key : text_at t.names own.spot ≡ m.name.text = ap (λ (x : Spot). x.text) says.spot in
    let is = is_class t.names t.exprs t.classes.items t.held at c.args.class.now old c.class_place-place.ensures c.index_mut.ensures.value in
    let before = c.own_declaration.ensures.table in
    let there = sym (ap (λ t. get t c.args.class.now) before) ∙ reads t.names t.exprs t.classes.items t.held at c.args.class.now old c.class_place-place.ensures c.index_mut.ensures.value in
    let method_stands = subst IsSome (behind (λ e. get e.methods m.name.text) _ (plain_class t.names t.exprs old) there) c.requires.method_there in
    subst (λ k. (n : ℕ) × (slice_get (map (method_key t.names) old.methods.items) n ≡ Some k)) (sym key) (method_there t.names t.exprs old is m.name.text method_stands)

pub invariant_of-self : goal.invariant_of-self
invariant_of-self c =
    let t = c.own_declaration.new.self in
    let m = plain_declared c.args.from.now c.args.exprs.now c.args.method.now in
    let own = c.in_ok-own.own in
    let says = c.in_ok-own.ensures in
    let old = c.index_mut.result.now in
    let at = c.class_place-place.result in
    let key : text_at t.names own.spot ≡ m.name.text = ap (λ (x : Spot). x.text) says.spot in
    let is = is_class t.names t.exprs t.classes.items t.held at c.args.class.now old c.class_place-place.ensures c.index_mut.ensures.value in
    let before = c.own_declaration.ensures.table in
    let there = sym (ap (λ t. get t c.args.class.now) before) ∙ reads t.names t.exprs t.classes.items t.held at c.args.class.now old c.class_place-place.ensures c.index_mut.ensures.value in
    let method_stands = subst IsSome (behind (λ e. get e.methods m.name.text) _ (plain_class t.names t.exprs old) there) c.requires.method_there in
    let entry = some_value (get (methods_of t.names t.exprs old.methods.items) m.name.text) method_stands in
    let same = if_some (λ e. IsTrue (same_signature e.signature (signature_of m))) (get (methods_of t.names t.exprs old.methods.items) m.name.text) entry.0 entry.1
    (subst (λ o. IfSome o (λ x. IsTrue (same_signature x.signature (signature_of m)))) (behind (λ e. get e.methods m.name.text) _ (plain_class t.names t.exprs old) there) c.requires.same) in
    let again = λ (after : IsRedeclaredAmong old.methods.items (text_at t.names own.spot) t.names own.result own.spot own.types own.body c.redeclare.new.methods.items).
    redeclared t.names t.exprs old is c.redeclare.new.methods.items m.name.text own.result own.spot own.types own.body m entry.0
    (subst (λ k. IsRedeclaredAmong old.methods.items k t.names own.result own.spot own.types own.body c.redeclare.new.methods.items) key after)
    says.own_result says.own_spot says.own_types says.own_body key entry.1 same says.spot says.result_type says.types says.body in
    let new : ClassEntry = record old { methods = c.redeclare.new.methods } in
    let was = plain_class t.names t.exprs old in
    let place = stands t.names t.exprs t.classes.items t.held at c.args.class.now old c.class_place-place.ensures c.index_mut.ensures.value in
    record {
      held = with_changed t.names t.exprs t.classes.items t.held at old new place refl
          (either_way c.redeclare.result c.redeclare.ensures.ok c.redeclare.ensures.err
          (λ after. let now = again after in with_methods t.names t.exprs old new is refl refl _ refl refl now.0.0 now.0.1)
          (λ after. let now = same_methods t.names t.exprs old is c.redeclare.new.methods.items after in with_methods t.names t.exprs old new is refl refl _ refl refl now.0.0 now.0.1));
    }

pub returns-clause-pushed : goal.returns-clause-pushed
returns-clause-pushed c =
    let t = c.own_declaration.new.self in
    let m = plain_declared c.args.from.now c.args.exprs.now c.args.method.now in
    let own = c.in_ok-own.own in
    let says = c.in_ok-own.ensures in
    let old = c.index_mut.result.now in
    let at = c.class_place-place.result in
    let key : text_at t.names own.spot ≡ m.name.text = ap (λ (x : Spot). x.text) says.spot in
    let is = is_class t.names t.exprs t.classes.items t.held at c.args.class.now old c.class_place-place.ensures c.index_mut.ensures.value in
    let before = c.own_declaration.ensures.table in
    let there = sym (ap (λ t. get t c.args.class.now) before) ∙ reads t.names t.exprs t.classes.items t.held at c.args.class.now old c.class_place-place.ensures c.index_mut.ensures.value in
    let method_stands = subst IsSome (behind (λ e. get e.methods m.name.text) _ (plain_class t.names t.exprs old) there) c.requires.method_there in
    let entry = some_value (get (methods_of t.names t.exprs old.methods.items) m.name.text) method_stands in
    let same = if_some (λ e. IsTrue (same_signature e.signature (signature_of m))) (get (methods_of t.names t.exprs old.methods.items) m.name.text) entry.0 entry.1
    (subst (λ o. IfSome o (λ x. IsTrue (same_signature x.signature (signature_of m)))) (behind (λ e. get e.methods m.name.text) _ (plain_class t.names t.exprs old) there) c.requires.same) in
    let again = λ (after : IsRedeclaredAmong old.methods.items (text_at t.names own.spot) t.names own.result own.spot own.types own.body c.redeclare.new.methods.items).
    redeclared t.names t.exprs old is c.redeclare.new.methods.items m.name.text own.result own.spot own.types own.body m entry.0
    (subst (λ k. IsRedeclaredAmong old.methods.items k t.names own.result own.spot own.types own.body c.redeclare.new.methods.items) key after)
    says.own_result says.own_spot says.own_types says.own_body key entry.1 same says.spot says.result_type says.types says.body in
    let new : ClassEntry = record old { methods = c.redeclare.new.methods } in
    let was = plain_class t.names t.exprs old in
    let change = with_body m in
    on_ok c.redeclare.result c.redeclare.ensures.ok
    (λ after. map_with_changed t.names t.exprs t.classes.items t.held at c.args.class.now old new change c.class_place-place.ensures c.index_mut.ensures.value refl
    (ap (λ ms. record was { methods = ms }) ((again after).1 ∙ sym (changed_there (methods_of t.names t.exprs old.methods.items) m.name.text entry.0 (pushed_body m) entry.1)))
    ∙ ap (λ t. changed_at t c.args.class.now change) before)

pub returns-clause-err : goal.returns-clause-err
returns-clause-err c =
    let t = c.own_declaration.new.self in
    let m = plain_declared c.args.from.now c.args.exprs.now c.args.method.now in
    let own = c.in_ok-own.own in
    let says = c.in_ok-own.ensures in
    let old = c.index_mut.result.now in
    let at = c.class_place-place.result in
    let key : text_at t.names own.spot ≡ m.name.text = ap (λ (x : Spot). x.text) says.spot in
    let is = is_class t.names t.exprs t.classes.items t.held at c.args.class.now old c.class_place-place.ensures c.index_mut.ensures.value in
    let before = c.own_declaration.ensures.table in
    let there = sym (ap (λ t. get t c.args.class.now) before) ∙ reads t.names t.exprs t.classes.items t.held at c.args.class.now old c.class_place-place.ensures c.index_mut.ensures.value in
    let method_stands = subst IsSome (behind (λ e. get e.methods m.name.text) _ (plain_class t.names t.exprs old) there) c.requires.method_there in
    let entry = some_value (get (methods_of t.names t.exprs old.methods.items) m.name.text) method_stands in
    let same = if_some (λ e. IsTrue (same_signature e.signature (signature_of m))) (get (methods_of t.names t.exprs old.methods.items) m.name.text) entry.0 entry.1
    (subst (λ o. IfSome o (λ x. IsTrue (same_signature x.signature (signature_of m)))) (behind (λ e. get e.methods m.name.text) _ (plain_class t.names t.exprs old) there) c.requires.same) in
    let again = λ (after : IsRedeclaredAmong old.methods.items (text_at t.names own.spot) t.names own.result own.spot own.types own.body c.redeclare.new.methods.items).
    redeclared t.names t.exprs old is c.redeclare.new.methods.items m.name.text own.result own.spot own.types own.body m entry.0
    (subst (λ k. IsRedeclaredAmong old.methods.items k t.names own.result own.spot own.types own.body c.redeclare.new.methods.items) key after)
    says.own_result says.own_spot says.own_types says.own_body key entry.1 same says.spot says.result_type says.types says.body in
    let new : ClassEntry = record old { methods = c.redeclare.new.methods } in
    let was = plain_class t.names t.exprs old in
    on_err c.redeclare.result c.redeclare.ensures.err
    (λ after. map_with_changed t.names t.exprs t.classes.items t.held at c.args.class.now old new (λ e. e) c.class_place-place.ensures c.index_mut.ensures.value refl
    (ap (λ ms. record was { methods = ms }) (same_methods t.names t.exprs old is c.redeclare.new.methods.items after).1)
    ∙ unchanged (classes_of t.names t.exprs t.classes.items) c.args.class.now _ (reads t.names t.exprs t.classes.items t.held at c.args.class.now old c.class_place-place.ensures c.index_mut.ensures.value) ∙ before)
