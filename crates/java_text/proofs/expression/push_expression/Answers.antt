use Rattle.java_text.proofs.Writing.{goes_on}
use Rattle.java_text.proofs.expression.push_expression.Goals as goal

pub pieces-preserved : goal.pieces-preserved
pieces-preserved c = goes_on c.args.names.now c.args.exprs.now _ _ _ _ _ _ _ c.in-Some.ensures c.pieces.invariant c.in_ok-write_piece.ensures
