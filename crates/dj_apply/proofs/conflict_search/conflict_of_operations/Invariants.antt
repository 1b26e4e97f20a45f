use Rattle.std.proofs.Common.{List, take}
use Rattle.dj_tree.specs.declared.declarations.ClassOp.{ClassOp}
use Rattle.dj_tree.specs.Plain.{plain_operation}
use Rattle.dj_calculus.specs.Things as calculus
use Rattle.dj_apply.specs.Kept.{Keeps}
use Rattle.dj_apply.specs.Least.{IsLeastBy, Among}
use Rattle.dj_apply.specs.Overlaps.{IsNoLater, ThingsClash}
use Rattle.dj_apply.proofs.conflict_search.conflict_of_operations.Given as goal

abbrev pub invariant-loop-other : goal.invariant-loop-other
invariant-loop-other l = (before : List calculus.Thing) → Keeps l.source.names l.places before
    → IsLeastBy IsNoLater (Among (λ (y : ClassOp). ThingsClash before (plain_operation l.source.names l.source.exprs y)) (take l.other-index l.others)) l.least
