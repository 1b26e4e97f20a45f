use Rattle.std.proofs.Common.{◌≡◌, sym, ap, ◌∙◌, subst}
use Rattle.std.proofs.lemmas.List.{take_all}
use Rattle.dj_calculus.specs.FlatTables.{flat, IsFlattenable}
use Rattle.ifj_table.specs.Entries.{classes_of}
use Rattle.ifj_table.specs.Held.{AreClasses}
use Rattle.ifj_table.specs.Sorted.{map_of}
use Rattle.ifj_table.specs.Tables.{plain_table, table_names, table_nodes}
use Rattle.ifj_table.proofs.TableLemmas.{element_is}
use Rattle.ifj_flatten.proofs.Flattened.{class_key, flat_read, flat_is, class_new, class_more, class_apart}
use Rattle.ifj_flatten.proofs.flat.flatten.Goals as goal

pub loop-class-init : goal.loop-class-init
loop-class-init c = c.new-flat.ensures

pub push_class-requires-clause-absent : goal.push_class-requires-clause-absent
push_class-requires-clause-absent c =
    let names = c.names-from.result.now in
    let exprs = c.exprs-exprs.result.now in
    let classes = c.classes-classes.result.now in
    let held = subst (λ n. AreClasses n exprs classes) (sym c.names-from.ensures) (subst (λ x. AreClasses (table_names c.args.table.now) x classes) (sym c.exprs-exprs.ensures) c.classes-classes.ensures.held) in
    let at = c.loop-class.class-index in
    let here = element_is classes at c.class-item.result c.loop-class-test.true c.class-item.is in
    class_new names exprs classes held at c.class-item.result here (plain_table c.loop-class.flat.table) c.loop-class.invariant

pub push_class-requires-clause-apart : goal.push_class-requires-clause-apart
push_class-requires-clause-apart c =
    let t = c.args.table.now in
    let names = c.names-from.result.now in
    let exprs = c.exprs-exprs.result.now in
    let classes = c.classes-classes.result.now in
    let held = subst (λ n. AreClasses n exprs classes) (sym c.names-from.ensures) (subst (λ x. AreClasses (table_names t) x classes) (sym c.exprs-exprs.ensures) c.classes-classes.ensures.held) in
    let same : classes_of names exprs classes ≡ plain_table t =
    ap (λ n. classes_of n exprs classes) c.names-from.ensures ∙ ap (λ x. classes_of (table_names t) x classes) c.exprs-exprs.ensures ∙ ap (classes_of (table_names t) (table_nodes t)) c.classes-classes.ensures.classes in
    let at = c.loop-class.class-index in
    let here = element_is classes at c.class-item.result c.loop-class-test.true c.class-item.is in
    class_apart names exprs classes held at c.class-item.result here (subst IsFlattenable (sym same) c.requires.flattenable)

pub loop-class-preserved : goal.loop-class-preserved
loop-class-preserved c =
    let names = c.names-from.result.now in
    let exprs = c.exprs-exprs.result.now in
    let classes = c.classes-classes.result.now in
    let held = subst (λ n. AreClasses n exprs classes) (sym c.names-from.ensures) (subst (λ x. AreClasses (table_names c.args.table.now) x classes) (sym c.exprs-exprs.ensures) c.classes-classes.ensures.held) in
    let at = c.loop-class.class-index in
    let here = element_is classes at c.class-item.result c.loop-class-test.true c.class-item.is in
    class_more names exprs classes held at c.class-item.result here (plain_table c.loop-class.flat.table) (plain_table c.push_class.new.flat.table) c.loop-class.invariant c.in_ok-push_class.ensures

pub returns : goal.returns
returns c =
    let t = c.args.table.now in
    let names = c.names-from.result.now in
    let exprs = c.exprs-exprs.result.now in
    let classes = c.classes-classes.result.now in
    let held = subst (λ n. AreClasses n exprs classes) (sym c.names-from.ensures) (subst (λ x. AreClasses (table_names t) x classes) (sym c.exprs-exprs.ensures) c.classes-classes.ensures.held) in
    let same : classes_of names exprs classes ≡ plain_table t =
    ap (λ n. classes_of n exprs classes) c.names-from.ensures ∙ ap (λ x. classes_of (table_names t) x classes) c.exprs-exprs.ensures ∙ ap (classes_of (table_names t) (table_nodes t)) c.classes-classes.ensures.classes in
    ap plain_table c.into_table.ensures ∙ c.loop-class.invariant
    ∙ ap (map_of (class_key names exprs) (flat_read names exprs)) (take_all c.loop-class.class-index classes c.loop-class-test.false)
    ∙ flat_is names exprs classes held ∙ ap flat same
