use Rattle.std.proofs.Common.{take}
use Rattle.dj_tree.specs.Plain.{plain_class}
use Rattle.dj_faults.specs.LeastPlace.{IsLeastPlace, Among}
use Rattle.java_reader.specs.Faults.{MemberTwice}
use Rattle.java_reader.proofs.faults.member_fault.Given as goal

abbrev pub invariant-loop-class : goal.invariant-loop-class
invariant-loop-class l = IsLeastPlace (Among (λ c. MemberTwice (plain_class l.source.names l.source.exprs c)) (take l.class-index l.source.classes)) l.least
