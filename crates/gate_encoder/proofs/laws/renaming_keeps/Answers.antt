use Rattle.gate_encoder.proofs.Renaming.{renaming_keeps}
use Rattle.gate_encoder.proofs.laws.renaming_keeps.Goals as goal

pub returns : goal.returns
returns g c = renaming_keeps g.J.PartialEq.eq g.K.PartialEq.eq
