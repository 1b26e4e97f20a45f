use Rattle.std.proofs.Common.{take}
use Rattle.dj_tree.specs.Plain.{plain_method}
use Rattle.dj_faults.specs.LeastPlace.{IsLeastPlace, Among}
use Rattle.java_reader.specs.Faults.{ParameterTwice}
use Rattle.java_reader.proofs.faults.in_methods.Given as goal

abbrev pub invariant-loop-method : goal.invariant-loop-method
invariant-loop-method l = IsLeastPlace (Among (λ m. ParameterTwice (plain_method l.source.names l.source.exprs m)) (take l.method-index l.methods)) l.least
