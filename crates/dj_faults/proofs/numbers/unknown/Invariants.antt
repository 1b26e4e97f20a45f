use Rattle.std.proofs.Common.{take}
use Rattle.dj_faults.specs.LeastPlace.{IsLeastPlace, Among}
use Rattle.dj_faults.specs.Numbers.{Unmet}
use Rattle.dj_faults.proofs.numbers.unknown.Given as goal

abbrev pub invariant-loop-spot : goal.invariant-loop-spot
invariant-loop-spot l = IsLeastPlace (Among (Unmet l.fn.others) (take l.spot-index l.spots)) l.least
