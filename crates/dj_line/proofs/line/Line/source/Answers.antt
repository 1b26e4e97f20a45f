use Rattle.dj_calculus.proofs.SpelledExpressions.{laid_expressions}
use Rattle.dj_line.proofs.line.Line.source.Goals as goal

pub returns-clause-expressions : goal.returns-clause-expressions
returns-clause-expressions c = laid_expressions _ c.args.self.now.laid
