use Rattle.dj_expr_reader.proofs.Reading.{expressions_are_read}
use Rattle.dj_expr_reader.proofs.OneExpression.{expr_trees_are_read}
use Rattle.dj_expr_reader.proofs.laws.expressions_are_read.Goals as goal

pub returns-clause-nodes : goal.returns-clause-nodes
returns-clause-nodes c = expressions_are_read

pub returns-clause-trees : goal.returns-clause-trees
returns-clause-trees c = expr_trees_are_read
