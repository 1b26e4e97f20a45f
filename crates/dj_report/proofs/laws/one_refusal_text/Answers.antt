use Rattle.dj_report.proofs.OneText.{one_text}
use Rattle.dj_report.proofs.laws.one_refusal_text.Goals as goal

pub returns : goal.returns
returns c = one_text c.one_token_at.ensures
