use Rattle.gate_encoder.proofs.Deciding.{choices_extend}
use Rattle.gate_encoder.proofs.laws.choices_extend.Goals as goal

pub returns : goal.returns
returns g c = choices_extend g.K.PartialEq.eq
