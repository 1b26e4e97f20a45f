use Rattle.dj_report.proofs.RuleLines.{one_no}
use Rattle.dj_report.proofs.laws.one_no_text.Goals as goal

pub returns : goal.returns
returns c = one_no c.one_rule_text.ensures
