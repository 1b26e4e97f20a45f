use Rattle.dj_product_laws.proofs.PassProofs.{passed_makes, passed_is_product, passed_is_clean, stopped_counts}
use Rattle.dj_product_laws.proofs.laws.one_pass.Goals as goal

pub returns-clause-makes : goal.returns-clause-makes
returns-clause-makes c = passed_makes

pub returns-clause-product : goal.returns-clause-product
returns-clause-product c = passed_is_product

pub returns-clause-clean : goal.returns-clause-clean
returns-clause-clean c = passed_is_clean

pub returns-clause-stops : goal.returns-clause-stops
returns-clause-stops c = stopped_counts
