use Rattle.std.proofs.lemmas.Result.{IfOk-weaker}
use Rattle.dj_run.specs.Answers.{in_any_order}
use Rattle.dj_run.specs.Outcomes.{answer_of}
use Rattle.dj_run.proofs.generation.order_outcome.Goals as goal

pub returns-in-None : goal.returns-in-None
returns-in-None c = rw c.in-None.is (IfOk-weaker c.variant_outcome.result _ _ (λ outcome is. in_any_order (answer_of outcome) is) c.variant_outcome.ensures)
