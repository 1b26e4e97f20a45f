use Rattle.std.proofs.Common.{◌≡◌}
use Rattle.sat_links.specs.Watches.{watches_of}
use Rattle.sat_solver.specs.Entries.{IsFalseIn}
use Rattle.sat_solver.specs.Pairing.{GoesOn}
use Rattle.sat_solver.proofs.WalkLemmas.{Walking, left_from}
use Rattle.sat_solver.proofs.trail.Trail.walk.Given as goal

abbrev pub invariant-watches : goal.invariant-watches
invariant-watches l = record {
  goes_on : GoesOn l.initial.self l.initial.store l.self l.store;
  worked : l.self.worked ≡ l.initial.self.worked;
  falsified : IsFalseIn l.self.entries l.fn.lit;
  walking : Walking l.self l.store l.fn.lit l.before l.at;
}

abbrev pub decreases-watches : goal.decreases-watches
decreases-watches l = left_from (watches_of l.store.lists l.fn.lit) l.at
