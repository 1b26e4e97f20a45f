use Rattle.dj_line.specs.Lines.{plain_line}
use Rattle.ifj_table.specs.Tables.{plain_table}
use Rattle.dj_variant.proofs.CountingLemmas.{least_in_product, good_product, not_good}
use Rattle.dj_variant.proofs.typed_product.judged.Goals as goal

pub returns-in-Ok-clause-good : goal.returns-in-Ok-clause-good
returns-in-Ok-clause-good c =
    good_product (plain_line c.args.line.now) c.args.line.now.accepted c.args.config.now.chosen.items (plain_table c.args.table) c.requires.product c.requires.clean c.in-Ok.ensures.typed

pub returns-in-Err-Broken-clause-least : goal.returns-in-Err-Broken-clause-least
returns-in-Err-Broken-clause-least c =
    least_in_product (plain_line c.args.line.now) c.args.line.now.accepted c.args.config.now.chosen.items (plain_table c.args.table) c.requires.product c.requires.clean c.in-Err-Broken.instance
    (rw c.in-Err-Broken.field-0-is at c.in-Err-Broken.ensures.least)

pub returns-in-Err-Broken-clause-bad : goal.returns-in-Err-Broken-clause-bad
returns-in-Err-Broken-clause-bad c =
    not_good (plain_line c.args.line.now) c.args.line.now.accepted c.args.config.now.chosen.items (plain_table c.args.table) c.requires.product c.requires.clean (rw c.in-Err-Broken.field-0-is at c.in-Err-Broken.ensures.untyped)
