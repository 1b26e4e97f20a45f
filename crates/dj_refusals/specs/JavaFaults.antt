-- The faults of a Java file in the code, and what they stand for.
use Rattle.dj_calculus.specs.JavaFiles as java
use Rattle.dj_refusals.specs.declared.refusal.JavaFault.{JavaFault}
use Rattle.dj_refusals.specs.declared.refusal.JavaFault.TheVariants.{Class, Member, Parameter}

abbrev pub java_fault_of : JavaFault → java.JavaFault
java_fault_of Class = java.RepeatedClass
java_fault_of Member = java.RepeatedMember
java_fault_of Parameter = java.RepeatedParameter
