use Rattle.std.proofs.Common.{take}
use Rattle.dj_tree.specs.Plain.{plain_operation}
use Rattle.dj_faults.specs.LeastPlace.{Among}
use Rattle.dj_faults.specs.Inside.{InOperations}
use Rattle.dj_faults.specs.Places.{AreLeast}
use Rattle.dj_faults.proofs.operations.in_deltas.Given as goal

-- the least places in the deltas so far
abbrev pub invariant-loop-delta : goal.invariant-loop-delta
invariant-loop-delta l =
    AreLeast (λ fault. Among (λ d. InOperations (plain_operation l.source.names l.source.exprs) fault d.ops) (take l.delta-index l.source.deltas)) l.least
