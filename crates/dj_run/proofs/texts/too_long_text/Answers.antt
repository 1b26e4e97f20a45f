use Rattle.dj_run.proofs.Refusing.{long_text}
use Rattle.dj_run.proofs.texts.too_long_text.Goals as goal
use Rattle.std.proofs.lemmas.Result.{IfOk-weaker}

pub returns : goal.returns
returns c = IfOk-weaker c.refusal_text.result _ _ (λ text is. long_text text.items is) c.refusal_text.ensures
