use Rattle.std.proofs.Common.{sym, subst}
use Rattle.sat_clauses.specs.ClauseLists.{distinct_literals}
use Rattle.incremental_solver.specs.Sessions.{IsSession}
use Rattle.incremental_solver.proofs.GrowthLemmas.{session_added}
use Rattle.incremental_solver.proofs.solver.Solver.add_clause.Goals as goal

pub invariant_of-self-2 : goal.invariant_of-self-2
invariant_of-self-2 c = subst (λ added. IsSession added c.self.inside.session) (sym c.in_ok-place.ensures.ok) (session_added c.self.inside.added (distinct_literals c.args.lits.now) c.self.inside.session c.self.invariant)
