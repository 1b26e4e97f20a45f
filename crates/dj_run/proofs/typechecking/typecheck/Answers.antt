use Rattle.std.proofs.Common.{length, subst, ap, ◌∙◌, arith}
use Rattle.dj_refusals.specs.declared.refusal.Refusal.TheVariants.{TooLong}
use Rattle.dj_run.specs.JavaFiles.{too_long}
use Rattle.dj_run.specs.Answers.{java_refused}
use Rattle.dj_run.specs.Outcomes.{IsReading}
use Rattle.dj_run.proofs.typechecking.typecheck.Goals as goal

pub java_outcome-requires : goal.java_outcome-requires
java_outcome-requires c =
    let is = subst (IsReading c.requires.0) c.in-Bytes.is c.requires.1 in
    omega (arith, is.1, ap length (c.deref.ensures.value ∙ is.0))

pub returns-in_ok-too_long_text-in-TooLong : goal.returns-in_ok-too_long_text-in-TooLong
returns-in_ok-too_long_text-in-TooLong c = λ bytes is.
    java_refused TooLong _ (too_long (subst (IsReading bytes) c.in-TooLong.is is)) (c.in_ok-too_long_text-in-TooLong.ensures bytes)
