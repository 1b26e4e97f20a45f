use Rattle.std.proofs.Common.{◌≡◌, Some, sym, ap, ◌∙◌, subst}
use Rattle.std.specs.Prelude.{unwrap_or, [], None, MatchOption, IfSome}
use Rattle.std.specs.FinMap.{get}
use Rattle.std.specs.Borrow.{Bor}
use Rattle.ifj_table.specs.Entries.{plain_class}
use Rattle.ifj_table.specs.Tables.{plain_table}
use Rattle.ifj_table.specs.Lookups.{IsClassNamed}
use Rattle.ifj_table.specs.declared.entry.ClassEntry.{ClassEntry}
use Rattle.ifj_table.proofs.table.Table.class_of.Goals as goal

pub returns-clause-found : goal.returns-clause-found
returns-clause-found c =
    let t = c.args.self.now in
    rw c.text.ensures c.class_named.ensures.found

pub returns-clause-class : goal.returns-clause-class
returns-clause-class c = rw c.text.ensures c.class_named.ensures.class
