use Rattle.std.proofs.Common.{take}
use Rattle.dj_tree.specs.Plain.{plain_member}
use Rattle.dj_faults.specs.LeastPlace.{Among}
use Rattle.dj_faults.specs.Inside.{InMember}
use Rattle.dj_faults.specs.Places.{AreLeast}
use Rattle.dj_faults.proofs.operations.in_change.Given as goal

-- the least places in the members so far
abbrev pub invariant-loop-member : goal.invariant-loop-member
invariant-loop-member l = AreLeast (λ fault. Among (λ x. InMember fault (plain_member l.source.names l.source.exprs x)) (take l.member-index l.members)) l.least
