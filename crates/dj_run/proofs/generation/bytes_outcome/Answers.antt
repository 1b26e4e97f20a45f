use Rattle.std.proofs.Common.{sym, subst}
use Rattle.std.proofs.lemmas.Result.{IfOk-weaker}
use Rattle.dj_line.specs.Lines.{plain_line}
use Rattle.dj_run.specs.Answers.{Generates, of_line, file_refused}
use Rattle.dj_run.specs.Outcomes.{answer_of, word_of}
use Rattle.dj_run.proofs.generation.bytes_outcome.Goals as goal

pub returns-in-Err-Refused : goal.returns-in-Err-Refused
returns-in-Err-Refused c =
    IfOk-weaker c.refused_line.result _ _ (λ outcome told.
    subst (Generates c.args.config.now (word_of c.args.order) c.args.bytes.now) (sym told.1)
    (file_refused c.in-Err-Refused.refusal told.0 (rw c.in-Err-Refused.field-0-is at c.in-Err-Refused.ensures.line) told.2)) c.refused_line.ensures

pub returns : goal.returns
returns c =
    IfOk-weaker c.line_outcome.result _ _ (λ outcome is. of_line (plain_line c.in-Ok.line) (answer_of outcome) c.in-Ok.ensures.line is) c.line_outcome.ensures
