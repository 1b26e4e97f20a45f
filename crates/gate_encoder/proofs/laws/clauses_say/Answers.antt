use Rattle.gate_encoder.proofs.Saying.{clauses_say}
use Rattle.gate_encoder.proofs.laws.clauses_say.Goals as goal

pub returns : goal.returns
returns g c = clauses_say g.K.PartialEq.eq
