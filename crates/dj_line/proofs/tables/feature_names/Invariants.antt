use Rattle.std.proofs.Common.{◌≡◌, map, take}
use Rattle.dj_line.proofs.tables.feature_names.Given as goal

abbrev pub invariant-loop-feature : goal.invariant-loop-feature
invariant-loop-feature l = l.names.keys ≡ map (λ f. f.name.0) (take l.feature-index l.features)
