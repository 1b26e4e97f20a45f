use Rattle.dj_product_laws.proofs.MemberOrders.{same_faults, same_apply, same_attempt}
use Rattle.dj_product_laws.proofs.laws.members_in_any_order.Goals as goal

pub returns-clause-faults : goal.returns-clause-faults
returns-clause-faults c = same_faults

pub returns-clause-apply : goal.returns-clause-apply
returns-clause-apply c = same_apply

pub returns-clause-attempt : goal.returns-clause-attempt
returns-clause-attempt c = same_attempt
