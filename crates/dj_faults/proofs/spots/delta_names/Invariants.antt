use Rattle.std.proofs.Common.{◌≡◌, map, take}
use Rattle.dj_faults.proofs.spots.delta_names.Given as goal

abbrev pub invariant-loop-delta : goal.invariant-loop-delta
invariant-loop-delta l = l.names.items ≡ map (λ d. d.spot) (take l.delta-index l.deltas)
