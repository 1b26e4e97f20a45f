use Rattle.dj_faults.proofs.InsidePlaces.{each_either}
use Rattle.dj_faults.proofs.operations.in_operation.Goals as goal

pub returns : goal.returns
returns c = each_either _ _ _ _ _ c.earlier_each.ensures c.in_ok-here.ensures c.in_ok-inside.ensures
