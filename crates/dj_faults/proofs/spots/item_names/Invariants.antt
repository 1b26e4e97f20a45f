use Rattle.std.proofs.Common.{◌≡◌, map, take}
use Rattle.std.specs.List.{flat_map}
use Rattle.dj_faults.proofs.spots.item_names.Given as goal

abbrev pub invariant-loop-part : goal.invariant-loop-part
invariant-loop-part l = l.names.items ≡ flat_map (λ p. map (λ i. i.delta) p.items) (take l.part-index l.parts)
