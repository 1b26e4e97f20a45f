use Rattle.dj_run.specs.Answers.{right, wrong}
use Rattle.dj_run.proofs.checking.small_checked.Goals as goal

pub returns-in-Yes : goal.returns-in-Yes
returns-in-Yes c = right c.requires.small (rw c.in-Yes.is at c.in_ok-answer.ensures.yes) c.requires.not_void

pub returns-in_ok-text-in-No : goal.returns-in_ok-text-in-No
returns-in_ok-text-in-No c =
    let fails = rw c.in-No.is at c.in_ok-answer.ensures.no in
    wrong c.in-No.config.chosen.items c.in-No.instance c.in_ok-text-in-No.text.items c.requires.small fails.valid fails.least c.in_ok-text-in-No.ensures
