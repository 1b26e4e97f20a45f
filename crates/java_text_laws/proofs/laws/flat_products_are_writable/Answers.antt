use Rattle.java_text_laws.proofs.WritableProducts.{flat_products_are_writable}
use Rattle.java_text_laws.proofs.laws.flat_products_are_writable.Goals as goal

pub returns : goal.returns
returns c = flat_products_are_writable c.tables_are_tables.ensures.product c.tables_are_tables.ensures.flat c.distinct_parameters.ensures.product c.distinct_parameters.ensures.flat
