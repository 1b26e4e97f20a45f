-- The faults of a Java file, class by class.
use Rattle.std.specs.Prelude.{◌≡◌, ◌⊎◌, ℕ, List, map, codes, Option, None, Some}
use Rattle.dj_tree.specs.Trees.{Spot, Method, Class}
use Rattle.dj_calculus.specs.FaultPlaces.{Repeats}
use Rattle.dj_calculus.specs.JavaFiles as java
use Rattle.dj_calculus.specs.JavaFiles.{JavaFaultStands, FirstJavaFault}
use Rattle.dj_refusals.specs.JavaFaults.{java_fault_of}
use Rattle.dj_refusals.specs.declared.refusal.JavaFault.{JavaFault}

-- at the name, which is `Object`
abbrev pub IsObject : Spot → ℕ → Type 0
IsObject name at = (name.text ≡ codes "Object") × (name.at ≡ at)

-- at a field, or at a method, of the class that was declared before
abbrev pub MemberTwice : Class → ℕ → Type 0
MemberTwice class at = Repeats (map (λ f. f.name) class.fields) at ⊎ Repeats (map (λ m. m.name) class.methods) at

-- at a parameter of the method that was named before
abbrev pub ParameterTwice : Method → ℕ → Type 0
ParameterTwice method at = Repeats (map (λ p. p.name) method.parameters) at

-- the first fault of the classes, and none where they have none
abbrev pub IsFirstFound : List Class → Option (JavaFault × ℕ) → Type 0
IsFirstFound classes None = (fault : java.JavaFault) (at : ℕ) → ¬ (JavaFaultStands classes fault at)
IsFirstFound classes (Some found) = FirstJavaFault classes (java_fault_of found.0) found.1
