use Rattle.dj_report.proofs.RuleLines.{one_rule_line}
use Rattle.dj_report.proofs.laws.one_rule_text.Goals as goal

pub returns : goal.returns
returns c = one_rule_line c.one_token_at.ensures
