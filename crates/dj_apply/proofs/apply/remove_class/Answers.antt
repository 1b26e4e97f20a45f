use Rattle.std.proofs.Common.{IsSome, sym, ap, ◌∙◌, subst}
use Rattle.std.specs.Prelude.{is_some}
use Rattle.std.specs.FinMap.{get, remove}
use Rattle.dj_names.specs.Texts.{Text}
use Rattle.dj_tree.specs.Plain.{plain_spot}
use Rattle.ifj_table.specs.Tables.{plain_table}
use Rattle.dj_apply.proofs.StepLemmas.{text_read}
use Rattle.dj_apply.proofs.Applied.{removed_there, class_removed}
use Rattle.dj_apply.proofs.apply.remove_class.Goals as goal

pub remove_class-requires : goal.remove_class-requires
remove_class-requires c =
    let t = plain_table c.args.table.now.table in
    let old = removed_there t (plain_spot c.args.source.now.names c.args.class) c.requires.there in
    subst (λ (k : Text). IsSome (get t k)) (text_read c.args.source.now.names c.args.class c.text.result.now c.text.ensures) (ap is_some old.1)

pub returns : goal.returns
returns c =
    let t = plain_table c.args.table.now.table in
    let spot = plain_spot c.args.source.now.names c.args.class in
    let old = removed_there t spot c.requires.there in
    class_removed t (plain_table c.remove_class.new.self) spot old.0 old.1
    (c.remove_class.ensures.removed ∙ ap (λ (k : Text). remove t k) (sym (text_read c.args.source.now.names c.args.class c.text.result.now c.text.ensures)))
