use Rattle.std.proofs.Common.{sym, subst}
use Rattle.std.proofs.lemmas.Result.{IfOk-weaker}
use Rattle.dj_run.specs.Outcomes.{answer_of, answered}
use Rattle.dj_run.proofs.answer.reply.Goals as goal

pub returns-in-IsGood : goal.returns-in-IsGood
returns-in-IsGood c =
    IfOk-weaker c.check.result _ _ (λ outcome told bytes reading. subst (λ q. answered q bytes (answer_of outcome)) (sym c.in-IsGood.is) (told bytes reading)) c.check.ensures

pub returns-in-Generated : goal.returns-in-Generated
returns-in-Generated c =
    IfOk-weaker c.generate.result _ _ (λ outcome told bytes reading. subst (λ q. answered q bytes (answer_of outcome)) (sym c.in-Generated.is) (told bytes reading)) c.generate.ensures

pub returns-in-IsTyped : goal.returns-in-IsTyped
returns-in-IsTyped c =
    IfOk-weaker c.typecheck.result _ _ (λ outcome told bytes reading. subst (λ q. answered q bytes (answer_of outcome)) (sym c.in-IsTyped.is) (told bytes reading)) c.typecheck.ensures
