use Rattle.sat_solver.proofs.CountLemmas.{lexicographic}
use Rattle.sat_solver.proofs.laws.weight_is_lexicographic.Goals as goal

pub returns : goal.returns
returns c = lexicographic
