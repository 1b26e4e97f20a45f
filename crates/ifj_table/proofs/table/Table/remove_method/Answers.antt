use Rattle.std.proofs.Common.{◌≡◌, ℕ, map, slice_get, Some, refl, sym, ap, ◌∙◌, subst}
use Rattle.std.specs.Prelude.{IsSome}
use Rattle.std.specs.FinMap.{get}
use Rattle.ifj_table.specs.Entries.{plain_class, methods_of}
use Rattle.ifj_table.specs.Changes.{without_method}
use Rattle.ifj_table.specs.declared.entry.ClassEntry.{ClassEntry}
use Rattle.ifj_table.proofs.TableChanges.{with_changed, map_with_changed}
use Rattle.ifj_table.proofs.MemberLemmas.{behind, stands, is_class, reads, with_methods, method_there, fewer_methods, map_fewer_methods}
use Rattle.ifj_table.proofs.table.Table.remove_method.Goals as goal

pub remove_entry-requires-clause-rising : goal.remove_entry-requires-clause-rising
remove_entry-requires-clause-rising c =
    let t = c.args.self.now in
    (is_class t.names t.exprs t.classes.items t.held c.class_place-place.result c.args.class.now c.index_mut.result.now c.class_place-place.ensures c.index_mut.ensures.value).rising_methods

pub remove_entry-requires-clause-there : goal.remove_entry-requires-clause-there
remove_entry-requires-clause-there c =
    let t = c.args.self.now in
    let old = c.index_mut.result.now in
    let at = c.class_place-place.result in
    let is = is_class t.names t.exprs t.classes.items t.held at c.args.class.now old c.class_place-place.ensures c.index_mut.ensures.value in
    let there = reads t.names t.exprs t.classes.items t.held at c.args.class.now old c.class_place-place.ensures c.index_mut.ensures.value in
    method_there t.names t.exprs old is c.args.method.now (subst IsSome (behind (λ e. get e.methods c.args.method.now) _ (plain_class t.names t.exprs old) there) c.requires.method_there)

pub invariant_of-self : goal.invariant_of-self
invariant_of-self c =
    let t = c.args.self.now in
    let old = c.index_mut.result.now in
    let at = c.class_place-place.result in
    let is = is_class t.names t.exprs t.classes.items t.held at c.args.class.now old c.class_place-place.ensures c.index_mut.ensures.value in
    let new : ClassEntry = record old { methods = c.remove_entry.new.entries } in
    let fewer = fewer_methods t.names t.exprs old is c.remove_entry.ensures.0 in
    record {
      held = with_changed t.names t.exprs t.classes.items t.held at old new (stands t.names t.exprs t.classes.items t.held at c.args.class.now old c.class_place-place.ensures c.index_mut.ensures.value) refl
          (with_methods t.names t.exprs old new is refl refl _ refl c.remove_entry.ensures.2 fewer.0 fewer.1);
    }

pub returns-clause-removed : goal.returns-clause-removed
returns-clause-removed c =
    let t = c.args.self.now in
    let old = c.index_mut.result.now in
    let at = c.class_place-place.result in
    let is = is_class t.names t.exprs t.classes.items t.held at c.args.class.now old c.class_place-place.ensures c.index_mut.ensures.value in
    let new : ClassEntry = record old { methods = c.remove_entry.new.entries } in
    let before = plain_class t.names t.exprs old in
    map_with_changed t.names t.exprs t.classes.items t.held at c.args.class.now old new (without_method c.args.method.now) c.class_place-place.ensures c.index_mut.ensures.value refl
    (ap (λ fs. record before { methods = fs }) (ap (methods_of t.names t.exprs) c.remove_entry.ensures.2 ∙ map_fewer_methods t.names t.exprs old is c.remove_entry.ensures.0 c.args.method.now c.remove_entry.ensures.1))
