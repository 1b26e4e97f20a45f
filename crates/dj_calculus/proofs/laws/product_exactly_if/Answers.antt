use Rattle.dj_calculus.proofs.ProductLaw.{product_exactly_if}
use Rattle.dj_calculus.proofs.laws.product_exactly_if.Goals as goal

pub returns : goal.returns
returns c = λ source chosen accepted. product_exactly_if source accepted chosen
