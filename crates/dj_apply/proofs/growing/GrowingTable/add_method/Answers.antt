use Rattle.std.proofs.Common.{◌∙◌, ap}
use Rattle.dj_tree.specs.Plain.{plain_method}
use Rattle.ifj_table.specs.Tables.{plain_table}
use Rattle.dj_calculus.specs.Entries.{method_entry}
use Rattle.ifj_table.specs.Changes.{changed_at, with_method}
use Rattle.ifj_table.specs.declared.table.Table.{Table}
use Rattle.ifj_table.proofs.MemberLemmas.{on_ok}
use Rattle.dj_apply.proofs.StepLemmas.{method_added}
use Rattle.dj_apply.proofs.growing.GrowingTable.add_method.Goals as goal

pub returns : goal.returns
returns c =
    let m = plain_method c.args.source.now.names c.args.source.now.exprs c.args.method.now in
    on_ok c.add_method.result c.add_method.ensures.added
    (λ is. method_added (plain_table c.args.self.now.table) c.args.class.now (plain_table c.add_method.new.self) m c.requires.can
    (is ∙ ap (λ (w : Table). changed_at (plain_table w) c.args.class.now (with_method m.name.text (method_entry m))) c.in_ok-count_method.ensures.table))
