use Rattle.std.proofs.Common.{rules, length, ap}
use Rattle.ifj_lineages.proofs.Telling.{none_known}
use Rattle.ifj_lineages.proofs.lineages.Lineages.unknown.Goals as goal

pub returns : goal.returns
returns c = none_known c.args.table.now _ (length c.classes.result.now) (ap length c.classes.ensures.classes) (c.in_ok-lineages.ensures.items_if_clones_equal (λ y given. search rules))
