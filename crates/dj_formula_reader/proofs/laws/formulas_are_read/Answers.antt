use Rattle.dj_formula_reader.proofs.Reading.{formulas_are_read}
use Rattle.dj_formula_reader.proofs.OneFormula.{formula_trees_are_read}
use Rattle.dj_formula_reader.proofs.laws.formulas_are_read.Goals as goal

pub returns-clause-nodes : goal.returns-clause-nodes
returns-clause-nodes c = formulas_are_read

pub returns-clause-trees : goal.returns-clause-trees
returns-clause-trees c = formula_trees_are_read
