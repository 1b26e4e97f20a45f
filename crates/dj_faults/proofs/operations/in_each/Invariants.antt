use Rattle.std.proofs.Common.{take}
use Rattle.dj_tree.specs.Plain.{plain_operation}
use Rattle.dj_faults.specs.LeastPlace.{Among}
use Rattle.dj_faults.specs.Inside.{InOperation}
use Rattle.dj_faults.specs.Places.{AreLeast}
use Rattle.dj_faults.proofs.operations.in_each.Given as goal

-- the least places in the operations so far
abbrev pub invariant-loop-operation : goal.invariant-loop-operation
invariant-loop-operation l = AreLeast (λ fault. Among (λ x. InOperation fault (plain_operation l.source.names l.source.exprs x)) (take l.operation-index l.operations)) l.least
