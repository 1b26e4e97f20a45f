use Rattle.dj_line.specs.Lines.{plain_line}
use Rattle.dj_variant.proofs.CountingLemmas.{least_prevents, prevented}
use Rattle.dj_variant.proofs.typed_product.variant.Goals as goal

pub returns-in-Err-Broken-clause-least : goal.returns-in-Err-Broken-clause-least
returns-in-Err-Broken-clause-least c =
    rw c.in-Err-Broken.field-0-is
    (least_prevents (plain_line c.args.line.now) c.args.config.now.chosen.items c.in-Err-Broken.instance (rw c.in-Err-Broken.field-0-is at c.in-Err-Broken.ensures.broken))

pub returns-in-Err-Broken-clause-bad : goal.returns-in-Err-Broken-clause-bad
returns-in-Err-Broken-clause-bad c =
    prevented (plain_line c.args.line.now) c.args.config.now.chosen.items c.args.line.now.accepted c.in-Err-Broken.instance (rw c.in-Err-Broken.field-0-is at c.in-Err-Broken.ensures.broken)
