use Rattle.dj_calculus_laws.proofs.TableProofs.{product_has_distinct, java_has_distinct, flat_has_distinct}
use Rattle.dj_calculus_laws.proofs.laws.distinct_parameters.Goals as goal

pub returns-clause-product : goal.returns-clause-product
returns-clause-product c = product_has_distinct

pub returns-clause-java : goal.returns-clause-java
returns-clause-java c = java_has_distinct

pub returns-clause-flat : goal.returns-clause-flat
returns-clause-flat c = flat_has_distinct
