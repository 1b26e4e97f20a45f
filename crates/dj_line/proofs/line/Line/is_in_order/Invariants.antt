use Rattle.std.proofs.Common.{drop}
use Rattle.dj_line.specs.Lines.{plain_line}
use Rattle.dj_line.specs.OrderWords.{active_along}
use Rattle.dj_line.proofs.OrderWords.{Decides}
use Rattle.dj_line.proofs.line.Line.is_in_order.Given as goal

abbrev pub invariant-loop-part : goal.invariant-loop-part
invariant-loop-part l = let all = active_along (plain_line l.fn.self) l.fn.config.chosen.items in Decides all (drop l.part all) l.fn.deltas l.rest
