use Rattle.dj_faults.proofs.LeastLemmas.{least_either}
use Rattle.dj_faults.proofs.OperationFaults.{least_unknown_feature}
use Rattle.dj_faults.proofs.features.unknown_feature.Goals as goal

pub returns : goal.returns
returns c = rw c.earlier.ensures (least_unknown_feature c.args.source.now _ (least_either c.in_ok-valid.valid c.in_ok-conditions.conditions c.in_ok-valid.ensures c.in_ok-conditions.ensures))
