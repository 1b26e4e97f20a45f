use Rattle.std.proofs.Common.{◌≡◌, map, take}
use Rattle.dj_line.proofs.tables.delta_names.Given as goal

abbrev pub invariant-loop-delta : goal.invariant-loop-delta
invariant-loop-delta l = l.names.keys ≡ map (λ d. d.spot.name.0) (take l.delta-index l.deltas)
