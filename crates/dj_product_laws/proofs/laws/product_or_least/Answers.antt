use Rattle.dj_product_laws.proofs.OneAnswer.{product_or_least, not_both}
use Rattle.dj_product_laws.proofs.laws.product_or_least.Goals as goal

pub returns-clause-one : goal.returns-clause-one
returns-clause-one c = product_or_least

pub returns-clause-not_both : goal.returns-clause-not_both
returns-clause-not_both c = not_both
