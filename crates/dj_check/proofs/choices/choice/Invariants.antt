-- The values so far, with those that the rest of the number stands for, are the whole choice.
use Rattle.std.proofs.Common.{◌≡◌, ◌-◌, ◌++◌, length}
use Rattle.dj_line.specs.Lines.{plain_line}
use Rattle.dj_check.specs.Choices.{choice_of}
use Rattle.dj_check.proofs.choices.choice.Given as goal

abbrev pub invariant-loop : goal.invariant-loop
invariant-loop l = l.chosen.items ++ choice_of (length (plain_line l.line).features - l.counter) l.rest ≡ choice_of (length (plain_line l.line).features) l.fn.number
