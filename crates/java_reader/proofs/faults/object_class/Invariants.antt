use Rattle.std.proofs.Common.{take}
use Rattle.dj_tree.specs.Plain.{plain_spot}
use Rattle.dj_faults.specs.LeastPlace.{IsLeastPlace, Among}
use Rattle.java_reader.specs.Faults.{IsObject}
use Rattle.java_reader.proofs.faults.object_class.Given as goal

abbrev pub invariant-loop-class : goal.invariant-loop-class
invariant-loop-class l = IsLeastPlace (Among (λ c. IsObject (plain_spot l.source.names c.spot)) (take l.class-index l.source.classes)) l.least
