use Rattle.std.proofs.Common.{refl}
use Rattle.ifj_table.specs.Entries.{plain_class}
use Rattle.ifj_table.specs.Held.{IsClassEntry}
use Rattle.ifj_table.proofs.TableLemmas.{all_at}
use Rattle.ifj_table.proofs.table.Table.super_of.Goals as goal

pub returns-clause-found : goal.returns-clause-found
returns-clause-found c =
    let t = c.args.self.now in
    record { entry = plain_class t.names t.exprs c.in_ok-entry.entry.now; there = c.in_ok-entry.ensures.found; parent = refl }

pub returns-clause-known : goal.returns-clause-known
returns-clause-known c =
    let t = c.args.self.now in
    let there = c.in_ok-entry.ensures.class in
    (all_at (IsClassEntry t.names t.exprs) t.classes.items there.number c.in_ok-entry.entry.now t.held.each there.stands).parent
