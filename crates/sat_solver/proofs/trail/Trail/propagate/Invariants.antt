use Rattle.std.proofs.Common.{◌-◌, length}
use Rattle.sat_solver.specs.Pairing.{GoesOn, HoldsFirst}
use Rattle.sat_solver.proofs.trail.Trail.propagate.Given as goal

abbrev pub invariant-work : goal.invariant-work
invariant-work l = record {
  goes_on : GoesOn l.fn.self l.fn.store l.self l.store;
  holds : HoldsFirst (length l.store.short) l.self.entries l.store l.self.level;
}

abbrev pub decreases-work : goal.decreases-work
decreases-work l = l.self.vars - l.self.worked
