-- What stands in a file can be said of its bytes.
use Rattle.std.specs.Prelude.{ℕ, List}
use Rattle.dj_tree.specs.Trees.{Class, Source}
use Rattle.dj_tree.specs.declared.source.Instance.{Instance}
use Rattle.dj_calculus.specs.Accepted.{IsAccepted}
use Rattle.dj_calculus.specs.Configurations.{Configuration}
use Rattle.dj_calculus.specs.LineRules.{Stands}
use Rattle.dj_calculus.specs.TableRules.{StandsIn}
use Rattle.dj_calculus.specs.JavaFiles.{JavaFaultStands, table_of}
use Rattle.dj_refusals.specs.JavaFaults.{java_fault_of}
use Rattle.dj_refusals.specs.Refusals.{IsWithin, IsNamed}
use Rattle.dj_refusals.specs.Sayable.{CanBeSaid}
use Rattle.dj_refusals.specs.declared.refusal.JavaFault.{JavaFault}
use Rattle.dj_refusals.specs.declared.refusal.Refusal.TheVariants.{Java}
use Rattle.dj_instance_laws.specs.Files.{SaysLine, SaysClasses}

-- an instance that stands in a configuration of an accepted line
abbrev pub LineInstancesAreSaid : Type 0
LineInstancesAreSaid = (bytes : List ℕ) (source : Source) (c : Configuration) (i : Instance) → SaysLine bytes source → IsAccepted source → Stands source c i
    → CanBeSaid bytes i

-- an instance that stands in the table of the classes
abbrev pub JavaInstancesAreSaid : Type 0
JavaInstancesAreSaid = (bytes : List ℕ) (classes : List Class) (i : Instance) → SaysClasses bytes classes → StandsIn (table_of classes) i → CanBeSaid bytes i

-- a fault of the classes: its place stands in the bytes, and a token begins there
abbrev pub JavaFaultsAreSaid : Type 0
JavaFaultsAreSaid = (bytes : List ℕ) (classes : List Class) (fault : JavaFault) (at : ℕ) → SaysClasses bytes classes
    → JavaFaultStands classes (java_fault_of fault) at → IsWithin bytes (Java fault at) × IsNamed bytes (Java fault at)
