use Rattle.dj_calculus_laws.proofs.TableProofs.{empty_is_table, product_is_table, java_is_table, flat_is_table}
use Rattle.dj_calculus_laws.proofs.laws.tables_are_tables.Goals as goal

pub returns-clause-empty : goal.returns-clause-empty
returns-clause-empty c = empty_is_table

pub returns-clause-product : goal.returns-clause-product
returns-clause-product c = product_is_table

pub returns-clause-java : goal.returns-clause-java
returns-clause-java c = java_is_table

pub returns-clause-flat : goal.returns-clause-flat
returns-clause-flat c = flat_is_table
