use Rattle.std.proofs.Common.{ap, Err}
use Rattle.dj_tree.specs.Plain.{plain_source}
use Rattle.dj_front.specs.Files.{at_fault}
use Rattle.dj_front.proofs.reading.accepted_line.Goals as goal

pub returns-in-Err-Refused : goal.returns-in-Err-Refused
returns-in-Err-Refused c =
    let fault = c.in-Err-Refused.fault in
    let at = c.in-Err-Refused.at in
    let is = c.in-Err-Refused.field-0-is in
    record { line = at_fault c.args.tokens.now.list (plain_source c.args.source) fault at c.requires.tokens c.requires.spelled ((c.in-Err-Refused.ensures.refused fault at (λ e. cc)).0 (ap Err is)) }
