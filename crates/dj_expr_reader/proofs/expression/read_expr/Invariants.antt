use Rattle.std.proofs.Common.{◌≡◌, ◌+◌, ◌≤◌, length}
use Rattle.dj_lexer.specs.Symbols.{symbols_of}
use Rattle.dj_expr_reader.specs.Machine.{expr_reading, run}
use Rattle.dj_expr_reader.specs.View.{plain_mode, plain_frames, plain_marks, CountsBelow}
use Rattle.dj_expr_reader.proofs.expression.read_expr.Given as goal

-- The machine goes on with the rest as it began with the whole. No more arguments are complete than tokens were taken.
abbrev pub invariant-tokens : goal.invariant-tokens
invariant-tokens l =
    (expr_reading l.dialect (symbols_of l.bytes l.tokens)
    ≡ run l.dialect (plain_mode l.bytes l.machine.mode) (plain_frames l.bytes l.machine.frames) (plain_marks l.bytes l.machine.marks.items) (symbols_of l.bytes l.rest))
    × ((most : _) × ((most + length l.rest ≡ length l.tokens + 1) × (1 ≤ most) × CountsBelow most l.machine.frames))

abbrev pub decreases-tokens : goal.decreases-tokens
decreases-tokens l = length l.rest
