use Rattle.std.proofs.Common.{subst}
use Rattle.dj_calculus.specs.Instances.{IsLeast}
use Rattle.dj_calculus.specs.LineRules.{Counts}
use Rattle.dj_line.specs.Lines.{plain_line}
use Rattle.dj_variant.specs.Broken.{IfBroken}
use Rattle.dj_run.specs.Answers.{good, bad}
use Rattle.dj_run.proofs.generation.variant_outcome.Goals as goal

pub returns-in-Ok : goal.returns-in-Ok
returns-in-Ok c = good c.in-Ok.text.items c.in-Ok.ensures.generated

pub returns-in_ok-text-in-Err-Broken : goal.returns-in_ok-text-in-Err-Broken
returns-in_ok-text-in-Err-Broken c =
    bad c.in-Err-Broken.instance c.in_ok-text-in-Err-Broken.text.items (subst (λ e. IfBroken e (IsLeast (Counts (plain_line c.args.line.now) c.args.chosen.now.chosen.items))) c.in-Err-Broken.field-0-is c.in-Err-Broken.ensures.least)
    c.in_ok-text-in-Err-Broken.ensures
