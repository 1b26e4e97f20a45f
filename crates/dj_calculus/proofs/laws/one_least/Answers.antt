use Rattle.dj_calculus.specs.TableRules.{CountsIn}
use Rattle.dj_calculus.specs.LineRules.{Counts}
use Rattle.dj_calculus.proofs.LayerLemmas.{one_least}
use Rattle.dj_calculus.proofs.laws.one_least.Goals as goal

pub returns-clause-in_a_line : goal.returns-clause-in_a_line
returns-clause-in_a_line c = λ source chosen. one_least (Counts source chosen)

pub returns-clause-in_a_table : goal.returns-clause-in_a_table
returns-clause-in_a_table c = λ t. one_least (CountsIn t)
