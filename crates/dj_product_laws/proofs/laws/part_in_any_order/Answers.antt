use Rattle.dj_product_laws.proofs.OnePart.{met_are_broken, part_makes}
use Rattle.dj_product_laws.proofs.laws.part_in_any_order.Goals as goal

pub returns-clause-met : goal.returns-clause-met
returns-clause-met c = met_are_broken

pub returns-clause-makes : goal.returns-clause-makes
returns-clause-makes c = part_makes
