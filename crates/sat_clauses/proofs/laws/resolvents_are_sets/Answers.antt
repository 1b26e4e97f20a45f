use Rattle.sat_clauses.proofs.SetLemmas.{has-resolvent}
use Rattle.sat_clauses.proofs.laws.resolvents_are_sets.Goals as goal

pub returns : goal.returns
returns c = has-resolvent
