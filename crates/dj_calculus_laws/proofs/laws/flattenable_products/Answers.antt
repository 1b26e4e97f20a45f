use Rattle.dj_calculus_laws.proofs.TableProofs.{product_begins_plainly}
use Rattle.dj_calculus_laws.proofs.LineWords.{product_has_no_dollar, product_is_flattenable}
use Rattle.dj_calculus_laws.proofs.laws.flattenable_products.Goals as goal

pub returns-clause-oldest_bodies : goal.returns-clause-oldest_bodies
returns-clause-oldest_bodies c = product_begins_plainly

pub returns-clause-no_dollar : goal.returns-clause-no_dollar
returns-clause-no_dollar c = product_has_no_dollar

pub returns-clause-flattenable : goal.returns-clause-flattenable
returns-clause-flattenable c = product_is_flattenable
