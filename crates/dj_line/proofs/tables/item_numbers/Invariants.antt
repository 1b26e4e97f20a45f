use Rattle.std.proofs.Common.{◌≡◌, map, take}
use Rattle.dj_line.specs.Numbering.{number_by}
use Rattle.dj_line.proofs.tables.item_numbers.Given as goal

abbrev pub invariant-loop-item : goal.invariant-loop-item
invariant-loop-item l = l.numbers.items ≡ map (number_by l.deltas.keys) (take l.item-index l.items)
