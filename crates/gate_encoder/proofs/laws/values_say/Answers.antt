use Rattle.gate_encoder.proofs.Saying.{values_say}
use Rattle.gate_encoder.proofs.laws.values_say.Goals as goal

pub returns : goal.returns
returns g c = values_say g.K.PartialEq.eq
