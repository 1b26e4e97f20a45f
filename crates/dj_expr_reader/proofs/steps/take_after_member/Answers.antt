use Rattle.std.proofs.Common.{sym}
use Rattle.dj_expr_reader.proofs.steps.take_after_member.Goals as goal

pub returns-then-is_sign-2 : goal.returns-then-is_sign-2
returns-then-is_sign-2 c = rw (sym c.if-is_sign.ensures, sym c.if-is_sign-2.ensures) (c.begin_value.ensures c.args.bytes.now)
