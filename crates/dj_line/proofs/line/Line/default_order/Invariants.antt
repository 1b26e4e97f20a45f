use Rattle.std.proofs.Common.{◌≡◌, filter, take}
use Rattle.std.specs.List.{flat_map}
use Rattle.dj_line.specs.Lines.{plain_line}
use Rattle.dj_line.specs.Placing.{numbers_along}
use Rattle.dj_line.specs.Orders.{is_active}
use Rattle.dj_line.proofs.line.Line.default_order.Given as goal

abbrev pub invariant-loop-part : goal.invariant-loop-part
invariant-loop-part l = l.deltas.items ≡ flat_map (filter (is_active (plain_line l.self) l.config.chosen.items)) (take l.part (numbers_along (plain_line l.self)))
