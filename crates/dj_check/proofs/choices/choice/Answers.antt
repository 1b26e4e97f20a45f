use Rattle.std.proofs.Common.{◌<◌, length, arith}
use Rattle.dj_line.specs.Lines.{plain_line}
use Rattle.dj_check.specs.Choices.{choice_of}
use Rattle.dj_check.proofs.ChoiceLemmas.{next_digit, all_digits}
use Rattle.dj_check.proofs.choices.choice.Goals as goal

pub loop-preserved : goal.loop-preserved
loop-preserved c =
    let n = length (plain_line c.args.line.now).features in
    let low : c.loop.counter < n = omega (arith, c.feature_count-end.ensures, c.loop-test.true) in
    next_digit n c.loop.counter c.loop.rest c.loop.chosen.items c.push.new.self.items (choice_of n c.args.number) low c.loop.invariant c.in_ok-push.ensures.items

pub returns : goal.returns
returns c =
    let n = length (plain_line c.args.line.now).features in
    all_digits n c.loop.counter c.loop.rest c.loop.chosen.items (choice_of n c.args.number) (omega (arith, c.feature_count-end.ensures, c.loop-test.false)) c.loop.invariant
