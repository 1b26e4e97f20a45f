use Rattle.gate_encoder.proofs.Deciding.{free_keys_decide}
use Rattle.gate_encoder.proofs.laws.free_keys_decide.Goals as goal

pub returns : goal.returns
returns g c = free_keys_decide g.K.PartialEq.eq
