use Rattle.std.proofs.Common.{◌++◌}
use Rattle.java_text.specs.Pieces.{written_at, total_work}
use Rattle.java_text.proofs.Writing.{IsWriting}
use Rattle.java_text.proofs.expression.push_expression.Given as goal

abbrev pub invariant-pieces : goal.invariant-pieces
invariant-pieces l = IsWriting l.names l.exprs l.pieces l.text.items (l.fn.text.items ++ (written_at l.names l.exprs l.fn.root.0).text)

abbrev pub decreases-pieces : goal.decreases-pieces
decreases-pieces l = total_work l.exprs l.pieces
