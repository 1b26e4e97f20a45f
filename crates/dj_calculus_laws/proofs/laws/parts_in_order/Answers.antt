use Rattle.dj_calculus_laws.proofs.OrderProofs.{table_after_next, stays_stopped}
use Rattle.dj_calculus_laws.proofs.laws.parts_in_order.Goals as goal

pub returns-clause-next : goal.returns-clause-next
returns-clause-next c = table_after_next

pub returns-clause-undefined : goal.returns-clause-undefined
returns-clause-undefined c = stays_stopped
