use Rattle.std.proofs.Common.{arith}
use Rattle.dj_run.specs.Answers.{void, not_small}
use Rattle.dj_run.proofs.checking.line_checked.Goals as goal

pub returns-then-feature_count-gt-MOST_FEATURES : goal.returns-then-feature_count-gt-MOST_FEATURES
returns-then-feature_count-gt-MOST_FEATURES c = not_small (λ small. omega (arith, c.if-feature_count-gt-MOST_FEATURES.true, c.feature_count.ensures, small))

pub returns-then-branch : goal.returns-then-branch
returns-then-branch c =
    void (omega (arith, c.if-feature_count-gt-MOST_FEATURES.false, c.feature_count.ensures)) (c.in_ok-is_void.ensures.void.0 c.if-branch.true)
