use Rattle.std.proofs.Common.{arith}
use Rattle.sat_solver.proofs.question.Question.open.Goals as goal

pub next_open-requires : goal.next_open-requires
next_open-requires c = λ k d h. let within = c.clause-clause.ensures.within k d h in ((c.clause-clause.ensures.clause.literals k d h).0, omega (arith, within, c.requires))
