use Rattle.std.proofs.Common.{sym}
use Rattle.dj_expr_reader.proofs.steps.take_next.Goals as goal

pub returns-then-is_sign-2 : goal.returns-then-is_sign-2
returns-then-is_sign-2 c = rw (sym c.if-is_sign.ensures, sym c.if-is_sign-2.ensures) (c.close_bracket.ensures c.args.bytes.now)

pub returns-then-is_sign-3 : goal.returns-then-is_sign-3
returns-then-is_sign-3 c = rw (sym c.if-is_sign.ensures, sym c.if-is_sign-2.ensures, sym c.if-is_sign-3.ensures) (c.next_argument.ensures c.args.bytes.now)

pub returns-then-is_sign-4 : goal.returns-then-is_sign-4
returns-then-is_sign-4 c =
    rw (sym c.if-is_sign.ensures, sym c.if-is_sign-2.ensures, sym c.if-is_sign-3.ensures, sym c.if-is_sign-4.ensures) (c.end_expression.ensures c.args.bytes.now)
