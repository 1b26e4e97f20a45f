use Rattle.dj_calculus.proofs.SpelledExpressions.{spelled_expressions, spelled_java}
use Rattle.dj_calculus.proofs.laws.laid_has_expressions.Goals as goal

pub returns-clause-of_a_source : goal.returns-clause-of_a_source
returns-clause-of_a_source c = λ source laid. spelled_expressions laid.tokens source laid.spelled

pub returns-clause-of_classes : goal.returns-clause-of_classes
returns-clause-of_classes c = λ classes laid. spelled_java laid.tokens classes laid.spelled
