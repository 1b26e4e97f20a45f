use Rattle.dj_calculus.specs.Parts.{chain}
use Rattle.dj_calculus.proofs.ProductLemmas.{default_along, one_product}
use Rattle.dj_calculus.proofs.laws.one_product.Goals as goal

pub returns-clause-default_is_allowed : goal.returns-clause-default_is_allowed
returns-clause-default_is_allowed c = λ source chosen. default_along source chosen (chain source)

pub returns-clause-one_product : goal.returns-clause-one_product
returns-clause-one_product c = one_product
