use Rattle.std.proofs.Common.{◌≡◌}
use Rattle.incremental_solver.specs.Sessions.{IsSession}
use Rattle.incremental_solver.proofs.session.Session.take_new.Given as goal

abbrev pub invariant-loop-place : goal.invariant-loop-place
invariant-loop-place l = record {
  session : IsSession l.added l.self;
  known : l.self.known ≡ l.place;
  trail : l.self.search.trail ≡ l.fn.self.search.trail;
}
