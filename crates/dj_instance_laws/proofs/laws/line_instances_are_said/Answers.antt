use Rattle.dj_instance_laws.proofs.Symbols.{line_said}
use Rattle.dj_instance_laws.proofs.laws.line_instances_are_said.Goals as goal

pub returns : goal.returns
returns c = line_said
