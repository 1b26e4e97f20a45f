use Rattle.std.proofs.Common.{ℕ, ◌<◌}
use Rattle.dj_tree.specs.Plain.{plain_source}
use Rattle.dj_calculus.specs.Faults.{Fault, fault_rank}
use Rattle.dj_calculus.specs.FaultPlaces.{FaultStands}
use Rattle.dj_faults.proofs.fault.first_fault.Given as goal

abbrev pub invariant-loop-fault : goal.invariant-loop-fault
invariant-loop-fault l = (other : Fault) (at : ℕ) → fault_rank other < l.fault-index → ¬ FaultStands (plain_source l.source) other at
