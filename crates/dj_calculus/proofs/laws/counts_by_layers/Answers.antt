use Rattle.dj_calculus.specs.TableRules.{StandsIn}
use Rattle.dj_calculus.specs.LineRules.{Stands}
use Rattle.dj_calculus.proofs.LayerLemmas.{counts_by_layers}
use Rattle.dj_calculus.proofs.laws.counts_by_layers.Goals as goal

pub returns-clause-in_a_line : goal.returns-clause-in_a_line
returns-clause-in_a_line c = λ source chosen. counts_by_layers (Stands source chosen)

pub returns-clause-in_a_table : goal.returns-clause-in_a_table
returns-clause-in_a_table c = λ t. counts_by_layers (StandsIn t)
