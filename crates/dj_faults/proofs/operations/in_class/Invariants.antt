use Rattle.std.proofs.Common.{take}
use Rattle.dj_tree.specs.Plain.{plain_method}
use Rattle.dj_faults.specs.LeastPlace.{Among}
use Rattle.dj_faults.specs.Inside.{InMethod}
use Rattle.dj_faults.specs.Places.{AreLeast}
use Rattle.dj_faults.proofs.operations.in_class.Given as goal

-- the least places in the methods so far
abbrev pub invariant-loop-method : goal.invariant-loop-method
invariant-loop-method l = AreLeast (λ fault. Among (λ x. InMethod fault (plain_method l.source.names l.source.exprs x)) (take l.method-index l.methods)) l.least
