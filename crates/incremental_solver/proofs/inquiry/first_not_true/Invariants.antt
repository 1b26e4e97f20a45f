use Rattle.incremental_solver.specs.Inquiries.{AreTrue}
use Rattle.incremental_solver.proofs.inquiry.first_not_true.Given as goal

abbrev pub invariant-places : goal.invariant-places
invariant-places l = AreTrue l.at l.trail.entries l.assumptions
