use Rattle.dj_calculus_laws.proofs.OrderProofs.{orders_agree, one_order_makes, table_after_makes}
use Rattle.dj_calculus_laws.proofs.laws.disjoint_orders.Goals as goal

pub returns-clause-orders_agree : goal.returns-clause-orders_agree
returns-clause-orders_agree c = orders_agree

pub returns-clause-one_order_makes : goal.returns-clause-one_order_makes
returns-clause-one_order_makes c = one_order_makes

pub returns-clause-table_after : goal.returns-clause-table_after
returns-clause-table_after c = table_after_makes
