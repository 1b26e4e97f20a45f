use Rattle.std.proofs.Common.{◌≡◌, ◌≢◌, is_ok, refl, sym, ap, ap₂, ◌∙◌, subst}
use Rattle.std.specs.List.{insert}
use Rattle.std.specs.FinMap as finite
use Rattle.dj_tree.specs.Plain.{plain_spot}
use Rattle.dj_tree.proofs.Growing.{kept_spot, known_later}
use Rattle.dj_calculus.specs.Subclasses.{object}
use Rattle.ifj_table.specs.Sorted.{IsGap}
use Rattle.ifj_table.specs.Entries.{plain_class, classes_of}
use Rattle.ifj_table.specs.Tables.{class_keys}
use Rattle.ifj_table.specs.Held.{AreClasses}
use Rattle.ifj_table.specs.Changes.{bare_class}
use Rattle.ifj_table.specs.declared.entry.ClassEntry.{ClassEntry}
use Rattle.ifj_table.proofs.TableLemmas.{class_key}
use Rattle.ifj_table.proofs.TableChanges.{with_class, map_with_class, either_list, bare_is_class, plain_bare}
use Rattle.ifj_table.proofs.table.Table.add_class.Goals as goal

pub invariant_of-self : goal.invariant_of-self
invariant_of-self c =
    let t = c.spot-2.new.self in
    let names = c.spot.new.self.names in
    let spot = c.in_ok-spot.spot in
    let class : ClassEntry = record { spot = spot; parent = c.in_ok-parent.parent; fields = c.new.result; methods = c.new-2.result } in
    let means = kept_spot names t.names spot c.spot-2.ensures.numbers c.in_ok-spot.ensures.known ∙ c.in_ok-spot.ensures.means in
    let key : class_key t.names class ≡ c.args.class.now = ap (λ s. s.text) means in
    let is = bare_is_class t.names t.exprs class (known_later names t.names spot c.spot-2.ensures.numbers c.in_ok-spot.ensures.known) c.in_ok-parent.ensures.known (subst (λ k. k ≢ object) (sym key) c.requires.declarable) c.new.ensures.items c.new-2.ensures.items in
    record {
      held = either_list (AreClasses t.names t.exprs) (is_ok c.insert.result) (insert t.classes.items c.class_gap-gap.result class) t.classes.items c.insert.new.self.items c.insert.ensures.items
          (with_class t.names t.exprs t.classes.items t.held c.class_gap-gap.result class is (subst (λ k. IsGap (class_keys t) k c.class_gap-gap.result) (sym key) c.class_gap-gap.ensures)) t.held;
    }

pub returns-clause-added : goal.returns-clause-added
returns-clause-added c =
    let t = c.spot-2.new.self in
    let names = c.spot.new.self.names in
    let spot = c.in_ok-spot.spot in
    let class : ClassEntry = record { spot = spot; parent = c.in_ok-parent.parent; fields = c.new.result; methods = c.new-2.result } in
    let means = kept_spot names t.names spot c.spot-2.ensures.numbers c.in_ok-spot.ensures.known ∙ c.in_ok-spot.ensures.means in
    let key : class_key t.names class ≡ c.args.class.now = ap (λ s. s.text) means in
    let before = c.spot-2.ensures.table ∙ c.spot.ensures.table in
    ap (classes_of t.names t.exprs) c.in_ok-insert.ensures.items
    ∙ map_with_class t.names t.exprs t.classes.items t.held c.class_gap-gap.result class (ap (finite.get (classes_of t.names t.exprs t.classes.items)) key ∙ ap (λ m. finite.get m c.args.class.now) before ∙ c.requires.absent)
    ∙ ap₂ (λ m k. finite.insert m k (plain_class t.names t.exprs class)) before key
    ∙ ap (finite.insert (classes_of c.args.self.now.names c.args.self.now.exprs c.args.self.now.classes.items) c.args.class.now)
    (plain_bare t.names t.exprs class c.new.ensures.items c.new-2.ensures.items ∙ ap₂ bare_class (ap (λ s. s.at) means) c.in_ok-parent.ensures.means)
