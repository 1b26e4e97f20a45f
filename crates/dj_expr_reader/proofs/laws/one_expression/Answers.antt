use Rattle.dj_expr_reader.proofs.OneExpression as lemmas
use Rattle.dj_expr_reader.proofs.laws.one_expression.Goals as goal

pub returns : goal.returns
returns c = lemmas.one_expression
