use Rattle.std.proofs.Common.{take}
use Rattle.dj_nodes.proofs.ExprLoop.{ExprFilled}
use Rattle.dj_nodes.proofs.expression.add_expr.Given as goal

abbrev pub invariant-loop-mark : goal.invariant-loop-mark
invariant-loop-mark l = ExprFilled l.bytes (take l.mark-index l.mark-items) l.fn.names l.names l.fn.exprs l.exprs l.root.0
