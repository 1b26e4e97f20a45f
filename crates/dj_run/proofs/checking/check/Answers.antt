use Rattle.std.proofs.Common.{length, subst, ap, ◌∙◌, arith}
use Rattle.dj_front.specs.Files.{too_long}
use Rattle.dj_refusals.specs.declared.refusal.Refusal.TheVariants.{TooLong}
use Rattle.dj_run.specs.Answers.{file_refused}
use Rattle.dj_run.specs.Outcomes.{IsReading}
use Rattle.dj_run.proofs.checking.check.Goals as goal

pub bytes_checked-requires : goal.bytes_checked-requires
bytes_checked-requires c =
    let is = subst (IsReading c.requires.0) c.in-Bytes.is c.requires.1 in
    omega (arith, is.1, ap length (c.deref.ensures.value ∙ is.0))

pub returns-in_ok-too_long_text-in-TooLong : goal.returns-in_ok-too_long_text-in-TooLong
returns-in_ok-too_long_text-in-TooLong c = λ bytes is.
    file_refused TooLong _ (too_long (subst (IsReading bytes) c.in-TooLong.is is)) (c.in_ok-too_long_text-in-TooLong.ensures bytes)
