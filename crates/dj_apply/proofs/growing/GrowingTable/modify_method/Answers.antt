use Rattle.std.proofs.Common.{◌∙◌, sym, ap}
use Rattle.dj_tree.specs.Plain.{plain_method}
use Rattle.ifj_table.specs.Tables.{plain_table}
use Rattle.dj_calculus.specs.Entries.{method_entry}
use Rattle.ifj_table.specs.Changes.{changed_at, with_body, with_method}
use Rattle.ifj_table.specs.declared.table.Table.{Table}
use Rattle.ifj_table.proofs.MemberLemmas.{on_ok}
use Rattle.dj_apply.proofs.StepLemmas.{body_pushed, body_put}
use Rattle.dj_apply.proofs.growing.GrowingTable.modify_method.Goals as goal

pub returns-then-says_original : goal.returns-then-says_original
returns-then-says_original c =
    let m = plain_method c.args.source.now.names c.args.source.now.exprs c.args.method.now in
    on_ok c.push_body.result c.push_body.ensures.pushed
    (λ is. body_pushed (plain_table c.args.self.now.table) c.args.class.now (plain_table c.push_body.new.self) m c.requires.can
    (sym c.says_original.ensures ∙ c.if-says_original.true)
    (is ∙ ap (λ (w : Table). changed_at (plain_table w) c.args.class.now (with_body m)) c.in_ok-count_method.ensures.table))

pub returns-else-says_original : goal.returns-else-says_original
returns-else-says_original c =
    let m = plain_method c.args.source.now.names c.args.source.now.exprs c.args.method.now in
    on_ok c.put_body.result c.put_body.ensures.put
    (λ is. body_put (plain_table c.args.self.now.table) c.args.class.now (plain_table c.put_body.new.self) m c.requires.can
    (sym c.says_original.ensures ∙ c.if-says_original.false)
    (is ∙ ap (λ (w : Table). changed_at (plain_table w) c.args.class.now (with_method m.name.text (method_entry m))) c.in_ok-count_method.ensures.table))
