use Rattle.dj_front.proofs.Sayable.{sayable}
use Rattle.dj_front.proofs.laws.refusals_are_said.Goals as goal

pub returns : goal.returns
returns c = sayable c.token_spans.ensures.tokens_are_spans
