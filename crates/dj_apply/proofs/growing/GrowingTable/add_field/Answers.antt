use Rattle.std.proofs.Common.{ap}
use Rattle.dj_tree.specs.Plain.{plain_field}
use Rattle.ifj_table.specs.Tables.{plain_table}
use Rattle.ifj_table.proofs.MemberLemmas.{on_ok}
use Rattle.dj_apply.proofs.StepLemmas.{field_written, text_read}
use Rattle.dj_apply.proofs.growing.GrowingTable.add_field.Goals as goal

pub returns : goal.returns
returns c =
    let names = c.args.names.now in
    let field = c.args.field.now in
    on_ok c.add_field.result c.add_field.ensures.added
    (λ is. field_written (plain_table c.args.self.now.table) c.args.class.now (plain_table c.count_names.new.self.table) (plain_table c.add_field.new.self) (plain_field names field) c.text-name.result.now c.text-kind.result.now
    (ap plain_table c.in_ok-count_names.ensures.table) (text_read names field.spot c.text-name.result.now c.text-name.ensures) (text_read names field.kind c.text-kind.result.now c.text-kind.ensures) c.requires.can is)
