use Rattle.std.proofs.Common.{refl, sym}
use Rattle.dj_expr_reader.proofs.finishing.end_expression.Goals as goal

pub returns-in-None : goal.returns-in-None
returns-in-None c = λ bytes. rw (sym (c.in_ok-finish_top.ensures.frames bytes), sym (c.in_ok-finish_top.ensures.marks bytes), c.in-None.ensures) refl

pub returns-in-Some : goal.returns-in-Some
returns-in-Some c = λ bytes. rw (sym (c.in_ok-finish_top.ensures.frames bytes), c.in-Some.ensures.1) refl
