-- The first fault of a source, and the sources that have none.
use Rattle.std.specs.Prelude.{ℕ}
use Rattle.dj_tree.specs.Trees.{Source}
use Rattle.dj_calculus.specs.Firsts.{IsFirst}
use Rattle.dj_calculus.specs.Faults.{Fault, fault_rank}
use Rattle.dj_calculus.specs.FaultPlaces.{FaultStands}

-- the first of the faults that stands anywhere, at its least place
abbrev pub FirstFault : Source → Fault → ℕ → Type 0
FirstFault source = IsFirst fault_rank (FaultStands source)

-- no fault stands anywhere
abbrev pub IsAccepted : Source → Type 0
IsAccepted source = (fault : Fault) (at : ℕ) → ¬ (FaultStands source fault at)
