use Rattle.std.proofs.Common.{take}
use Rattle.dj_tree.specs.Plain.{plain_method}
use Rattle.dj_faults.specs.LeastPlace.{IsLeastPlace, Among}
use Rattle.java_reader.specs.Faults.{ParameterTwice}
use Rattle.java_reader.proofs.faults.parameter_fault.Given as goal

abbrev pub invariant-loop-class : goal.invariant-loop-class
invariant-loop-class l =
    IsLeastPlace (Among (λ c. Among (λ m. ParameterTwice (plain_method l.source.names l.source.exprs m)) c.methods) (take l.class-index l.source.classes)) l.least
