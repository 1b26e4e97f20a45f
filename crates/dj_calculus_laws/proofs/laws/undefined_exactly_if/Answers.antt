use Rattle.dj_calculus_laws.proofs.RuleProofs.{undefined_exactly_if}
use Rattle.dj_calculus_laws.proofs.laws.undefined_exactly_if.Goals as goal

pub returns : goal.returns
returns c = undefined_exactly_if
