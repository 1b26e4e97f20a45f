use Rattle.std.proofs.Common.{◌∙◌, length, ap, refl, arith}
use Rattle.dj_line.specs.Lines.{plain_line}
use Rattle.dj_check.proofs.ChoiceLemmas.{length_choice, all_void}
use Rattle.dj_check.proofs.trial.is_void.Goals as goal

pub is_valid-requires : goal.is_valid-requires
is_valid-requires c = record { features = ap length c.in_ok-config.ensures ∙ length_choice (length (plain_line c.args.line.now).features) c.loop-number.number }

pub returns : goal.returns
returns c =
    let source = plain_line c.args.line.now in
    record { void = (λ on. all_void source c.loop-number.number (omega (arith, c.choice_count-number-end.ensures, c.loop-number-test.false)) c.loop-number.invariant, λ void. refl) }
