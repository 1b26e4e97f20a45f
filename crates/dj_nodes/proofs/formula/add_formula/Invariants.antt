use Rattle.std.proofs.Common.{take}
use Rattle.dj_nodes.proofs.FormulaLoop.{FormulaFilled}
use Rattle.dj_nodes.proofs.formula.add_formula.Given as goal

abbrev pub invariant-loop-mark : goal.invariant-loop-mark
invariant-loop-mark l = FormulaFilled l.bytes (take l.mark-index l.mark-items) l.fn.names l.names l.fn.formulas l.formulas l.root.0
