use Rattle.std.proofs.Common.{take}
use Rattle.dj_tree.specs.Plain.{plain_operation}
use Rattle.dj_faults.specs.LeastPlace.{IsLeastPlace, Among}
use Rattle.dj_faults.specs.Inside.{OnObject}
use Rattle.dj_faults.proofs.classes.objects.Given as goal

abbrev pub invariant-loop-operation : goal.invariant-loop-operation
invariant-loop-operation l = IsLeastPlace (Among (λ o. OnObject (plain_operation l.source.names l.source.exprs o)) (take l.operation-index l.operations)) l.least
