use Rattle.std.proofs.Common.{map, take}
use Rattle.dj_line.specs.Numbering.{number_by, HasItems}
use Rattle.dj_line.proofs.acceptance.chain_items.Given as goal

abbrev pub invariant-loop-part : goal.invariant-loop-part
invariant-loop-part l = HasItems (number_by l.deltas.keys) l.parts (take l.part-index l.chain) (map (λ v. v.items) l.items.items)
