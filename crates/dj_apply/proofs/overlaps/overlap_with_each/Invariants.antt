use Rattle.std.proofs.Common.{take}
use Rattle.dj_tree.specs.declared.declarations.ClassOp.{ClassOp}
use Rattle.dj_tree.specs.Plain.{plain_operation}
use Rattle.dj_apply.specs.Least.{IsLeastBy, Among}
use Rattle.dj_apply.specs.Overlaps.{IsNoLater, OperationClash}
use Rattle.dj_apply.proofs.overlaps.overlap_with_each.Given as goal

abbrev pub invariant-loop-other : goal.invariant-loop-other
invariant-loop-other l = IsLeastBy IsNoLater (Among (λ (x : ClassOp). OperationClash (plain_operation l.source.names l.source.exprs l.one) (plain_operation l.source.names l.source.exprs x)) (take l.other-index l.others)) l.least
