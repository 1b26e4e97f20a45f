use Rattle.std.proofs.Common.{◌≡◌, OnOk, subst}
use Rattle.sat_clauses.proofs.ListLemmas.{joined_distinct}
use Rattle.sat_solver.proofs.lesson.Making.start.Goals as goal

pub returns : goal.returns
returns c = subst (λ lits. OnOk c.start.result (c.start.new.self ≡ lits)) (joined_distinct c.args.clause.now c.requires.distinct) c.start.ensures.ok
