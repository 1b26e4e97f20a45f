use Rattle.std.proofs.Common.{◌≡◌, filter, take}
use Rattle.dj_line.specs.Lines.{plain_line}
use Rattle.dj_line.specs.Orders.{is_active}
use Rattle.dj_line.proofs.line.Line.active.Given as goal

abbrev pub invariant-loop-delta : goal.invariant-loop-delta
invariant-loop-delta l = l.active.items ≡ filter (is_active (plain_line l.self) l.config.chosen.items) (take l.delta-index l.deltas)
