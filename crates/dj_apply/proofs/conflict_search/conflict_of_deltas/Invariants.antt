use Rattle.std.proofs.Common.{take}
use Rattle.std.specs.List.{flat_map}
use Rattle.dj_calculus.specs.Things.{touched_by}
use Rattle.dj_line.specs.Lines.{plain_line}
use Rattle.dj_apply.specs.ActiveOperations.{active_deltas, active_operations}
use Rattle.dj_apply.specs.Kept.{Keeps}
use Rattle.dj_apply.specs.Least.{IsLeastBy}
use Rattle.dj_apply.specs.Overlaps.{IsNoLater, DeltasClash}
use Rattle.dj_apply.proofs.conflict_search.conflict_of_deltas.Given as goal

abbrev pub invariant-loop-delta : goal.invariant-loop-delta
invariant-loop-delta l =
    Keeps l.source.names l.places (flat_map touched_by (active_operations (plain_line l.line) l.config.chosen.items (take l.delta-index l.deltas)))
    × IsLeastBy IsNoLater (DeltasClash (active_deltas (plain_line l.line) l.config.chosen.items (take l.delta-index l.deltas))) l.least
