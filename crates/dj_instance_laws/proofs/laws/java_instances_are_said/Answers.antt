use Rattle.dj_instance_laws.proofs.Symbols.{java_instance_said}
use Rattle.dj_instance_laws.proofs.laws.java_instances_are_said.Goals as goal

pub returns : goal.returns
returns c = java_instance_said
