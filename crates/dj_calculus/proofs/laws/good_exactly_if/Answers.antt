use Rattle.dj_calculus.proofs.GoodLaw.{good_exactly_if, good_exactly_if_unbroken}
use Rattle.dj_calculus.proofs.laws.good_exactly_if.Goals as goal

pub returns-clause-no_instance : goal.returns-clause-no_instance
returns-clause-no_instance c = λ source chosen expressions accepted. good_exactly_if source expressions accepted chosen

pub returns-clause-no_rule : goal.returns-clause-no_rule
returns-clause-no_rule c = λ source chosen expressions accepted. good_exactly_if_unbroken source expressions accepted chosen
