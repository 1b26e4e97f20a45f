use Rattle.dj_refusals.specs.JavaFaults.{java_fault_of}
use Rattle.dj_instance_laws.proofs.Symbols.{java_fault_said}
use Rattle.dj_instance_laws.proofs.laws.java_faults_are_said.Goals as goal

pub returns : goal.returns
returns c = λ bytes classes fault at says stands. java_fault_said bytes classes (java_fault_of fault) at says stands
