use Rattle.std.proofs.Common.{◌≡◌, sym, ap, ◌∙◌, subst}
use Rattle.std.specs.FinMap as finite
use Rattle.ifj_table.specs.Entries.{classes_of}
use Rattle.ifj_table.specs.Held.{AreClasses}
use Rattle.ifj_table.proofs.TableChanges.{without_class, map_without}
use Rattle.ifj_table.proofs.table.Table.remove_class.Goals as goal

pub invariant_of-self : goal.invariant_of-self
invariant_of-self c =
    let t = c.args.self.now in
    record { held = subst (λ es. AreClasses t.names t.exprs es) (sym c.remove.ensures.items) (without_class t.names t.exprs t.classes.items t.held c.class_place-at.result) }

pub returns-clause-removed : goal.returns-clause-removed
returns-clause-removed c =
    let t = c.args.self.now in
    ap (classes_of t.names t.exprs) c.remove.ensures.items ∙ map_without t.names t.exprs t.classes.items t.held c.class_place-at.result c.args.class.now c.class_place-at.ensures
