use Rattle.sat_solver.specs.Pairing.{GoesOn, HoldsFirst}
use Rattle.sat_solver.proofs.trail.Trail.look_at_short.Given as goal

abbrev pub invariant-short : goal.invariant-short
invariant-short l = record {
  goes_on : GoesOn l.initial.self l.initial.store l.self l.store;
  holds : HoldsFirst l.at l.self.entries l.store l.self.level;
}
