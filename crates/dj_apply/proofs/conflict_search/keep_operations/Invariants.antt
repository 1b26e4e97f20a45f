use Rattle.std.proofs.Common.{List, ◌++◌, map, take}
use Rattle.std.specs.List.{flat_map}
use Rattle.dj_tree.specs.Plain.{plain_operation}
use Rattle.dj_calculus.specs.Things as calculus
use Rattle.dj_calculus.specs.Things.{touched_by}
use Rattle.dj_apply.specs.Kept.{Keeps}
use Rattle.dj_apply.proofs.conflict_search.keep_operations.Given as goal

abbrev pub invariant-loop-other : goal.invariant-loop-other
invariant-loop-other l = (before : List calculus.Thing) → Keeps l.source.names l.fn.places before
    → Keeps l.source.names l.places (before ++ flat_map touched_by (map (plain_operation l.source.names l.source.exprs) (take l.other-index l.others)))
