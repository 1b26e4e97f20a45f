use Rattle.std.proofs.Common.{◌∙◌, ap}
use Rattle.std.specs.List.{flat_map}
use Rattle.std.proofs.lemmas.List.{take_all}
use Rattle.dj_calculus.specs.JavaText.{class_text}
use Rattle.ifj_table.specs.Entries.{text_at, plain_class}
use Rattle.ifj_table.specs.Sorted.{pairs_of}
use Rattle.java_text.proofs.Lines.{table_written}
use Rattle.java_text.proofs.table.write.Goals as goal

pub returns : goal.returns
returns c =
    let names = c.names-names.result.now in
    let exprs = c.exprs-exprs.result.now in
    let classes = c.classes-classes.result.now in
    table_written c.args.table.now names exprs classes c.loop-class.text.items c.names-names.ensures c.exprs-exprs.ensures c.classes-classes.ensures.classes c.classes-classes.ensures.held
    (c.loop-class.invariant ∙ ap (λ cs. flat_map class_text (pairs_of (λ k. text_at names k.spot) (plain_class names exprs) cs)) (take_all c.loop-class.class-index classes c.loop-class-test.false))
