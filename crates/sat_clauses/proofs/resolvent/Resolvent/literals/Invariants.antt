use Rattle.std.proofs.Common.{◌≡◌, take}
use Rattle.sat_clauses.specs.Resolvents.{filled}
use Rattle.sat_clauses.proofs.resolvent.Resolvent.literals.Given as goal

abbrev pub invariant-loop-slot : goal.invariant-loop-slot
invariant-loop-slot l = l.lits.items ≡ filled (take l.slot-index l.slots)
