use Rattle.std.proofs.Common.{◌∙◌, sym, ap}
use Rattle.std.specs.FinMap.{insert}
use Rattle.dj_names.specs.Texts.{Text}
use Rattle.dj_tree.specs.Trees.{Spot}
use Rattle.dj_tree.specs.Plain.{plain_spot}
use Rattle.ifj_table.specs.Tables.{plain_table}
use Rattle.ifj_table.specs.Changes.{bare_class}
use Rattle.ifj_table.specs.declared.table.Table.{Table}
use Rattle.ifj_table.proofs.MemberLemmas.{on_ok}
use Rattle.dj_apply.proofs.StepLemmas.{text_read}
use Rattle.dj_apply.proofs.growing.GrowingTable.add_class.Goals as goal

pub returns : goal.returns
returns c =
    let name = text_read c.args.names.now c.args.class.now.spot c.text.result.now c.text.ensures in
    on_ok c.add_class.result c.add_class.ensures.added
    (λ is. is ∙ ap (λ (w : Table). insert (plain_table w) c.text.result.now (bare_class c.args.class.now.spot.at (record { text = c.parent_of-parent.result.text.now; at = c.parent_of-parent.result.at }))) c.in_ok-count_names.ensures.table
    ∙ ap (λ (x : Text). insert (plain_table c.args.self.now.table) x (bare_class c.args.class.now.spot.at (record { text = c.parent_of-parent.result.text.now; at = c.parent_of-parent.result.at }))) (sym name)
    ∙ ap (λ (p : Spot). insert (plain_table c.args.self.now.table) (plain_spot c.args.names.now c.args.class.now.spot).text (bare_class c.args.class.now.spot.at p)) (sym c.parent_of-parent.ensures))
