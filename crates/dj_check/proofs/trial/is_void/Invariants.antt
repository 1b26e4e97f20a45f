-- No choice that was tried is valid.
use Rattle.std.proofs.Common.{ℕ, ◌<◌, length}
use Rattle.dj_calculus.specs.Configurations.{IsValid}
use Rattle.dj_line.specs.Lines.{plain_line}
use Rattle.dj_check.specs.Choices.{choice_of}
use Rattle.dj_check.proofs.trial.is_void.Given as goal

abbrev pub invariant-loop-number : goal.invariant-loop-number
invariant-loop-number l = (k : ℕ) → k < l.number → ¬ (IsValid (plain_line l.line) (choice_of (length (plain_line l.line).features) k))
