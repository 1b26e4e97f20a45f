use Rattle.std.proofs.Common.{ap}
use Rattle.dj_tree.specs.Plain.{plain_spot}
use Rattle.ifj_table.specs.Tables.{plain_table}
use Rattle.ifj_table.proofs.MemberLemmas.{on_ok}
use Rattle.dj_apply.proofs.StepLemmas.{parent_written, text_read}
use Rattle.dj_apply.proofs.growing.GrowingTable.set_parent.Goals as goal

pub returns : goal.returns
returns c =
    on_ok c.set_parent.result c.set_parent.ensures.changed
    (λ is. parent_written (plain_table c.args.self.now.table) c.args.class.now (plain_table c.count_names.new.self.table) (plain_table c.set_parent.new.self) (plain_spot c.args.names.now c.args.parent) c.text.result.now
    (ap plain_table c.in_ok-count_names.ensures.table) (text_read c.args.names.now c.args.parent c.text.result.now c.text.ensures) c.requires.there is)
