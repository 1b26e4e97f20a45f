use Rattle.dj_tree.specs.Plain.{plain_spot}
use Rattle.ifj_table.specs.Tables.{plain_table}
use Rattle.dj_apply.proofs.StepLemmas.{method_cut, text_read}
use Rattle.dj_apply.proofs.growing.GrowingTable.remove_method.Goals as goal

pub returns : goal.returns
returns c =
    method_cut (plain_table c.args.self.now.table) c.args.class.now (plain_table c.remove_method.new.self) (plain_spot c.args.names.now c.args.method) c.text.result.now
    (text_read c.args.names.now c.args.method c.text.result.now c.text.ensures) c.requires.can c.remove_method.ensures.removed
