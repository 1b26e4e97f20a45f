use Rattle.std.proofs.Common.{take}
use Rattle.dj_tree.specs.Plain.{plain_operation}
use Rattle.dj_faults.specs.LeastPlace.{IsLeastPlace, Among}
use Rattle.dj_faults.specs.Inside.{OnObject}
use Rattle.dj_faults.proofs.classes.reserved_class.Given as goal

abbrev pub invariant-loop-delta : goal.invariant-loop-delta
invariant-loop-delta l = IsLeastPlace (Among (λ d. Among (λ o. OnObject (plain_operation l.source.names l.source.exprs o)) d.ops) (take l.delta-index l.source.deltas)) l.least
