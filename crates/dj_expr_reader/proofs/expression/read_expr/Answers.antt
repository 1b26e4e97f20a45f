use Rattle.std.proofs.Common.{◌+◌, refl, get_or, ap, ◌∙◌, arith}
use Rattle.dj_lexer.specs.Symbols.{symbol_of}
use Rattle.dj_expr_reader.specs.Machine.{expr_reading}
use Rattle.dj_expr_reader.specs.View.{plain_mode, plain_marks, plain_move}
use Rattle.dj_expr_reader.proofs.Counts.{counts_grow, counts_under}
use Rattle.dj_expr_reader.proofs.Turns.{goes_on, one_less}
use Rattle.dj_expr_reader.proofs.expression.read_expr.Goals as goal

pub tokens-init : goal.tokens-init
unfolding expr_reading
tokens-init c = (rw (c.new.ensures, c.new-2.ensures.items) refl, (1, (omega arith, omega arith, rw c.new.ensures tt)))

pub step-requires : goal.step-requires
step-requires c =
    let taken = c.tokens.invariant.1 in
    counts_under taken.0 4294967295 c.tokens.machine.frames (omega (arith, taken.1.0, c.in-len1-up.len_at_least, c.requires)) taken.1.2

pub tokens-preserved : goal.tokens-preserved
tokens-preserved c =
    let turn = c.in_ok-step.ensures ∙ ap (λ t. plain_move c.args.bytes.now t c.step.new.machine) c.in-Goes.is in
    let before = c.tokens.invariant in
    let less = one_less c.tokens.rest.now c.in-len1-up.len_at_least in (
      before.0 ∙ goes_on c.args.bytes.now c.args.dialect _ _ _ _ _ _ c.tokens.rest.now _ c.in-len1-up.len_at_least turn,
      (
        before.1.0 + 1,
        (
          omega (arith, less, before.1.1.0),
          omega arith,
          counts_grow c.args.bytes.now before.1.0 c.args.dialect (plain_mode c.args.bytes.now c.tokens.machine.mode) _ c.tokens.machine.frames c.step.new.machine.frames
              (plain_marks c.args.bytes.now c.tokens.machine.marks.items) _ (symbol_of c.args.bytes.now (get_or c.tokens.rest.now 0 _)) (omega (arith, before.1.1.1)) before.1.1.2 turn,
        ),
      ),
    )
