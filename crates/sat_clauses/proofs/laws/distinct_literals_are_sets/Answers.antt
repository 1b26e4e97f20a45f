use Rattle.std.specs.Prelude.{[]}
use Rattle.sat_clauses.proofs.SetLemmas.{has-joined}
use Rattle.sat_clauses.proofs.laws.distinct_literals_are_sets.Goals as goal

pub returns : goal.returns
returns c = λ lits lit. has-joined [] lits lit
