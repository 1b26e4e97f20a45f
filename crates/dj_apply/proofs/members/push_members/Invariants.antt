use Rattle.std.proofs.Common.{take}
use Rattle.dj_tree.specs.Plain.{plain_member}
use Rattle.dj_apply.proofs.MemberLists.{Pushed}
use Rattle.dj_apply.proofs.members.push_members.Given as goal

abbrev pub invariant-loop-operation : goal.invariant-loop-operation
invariant-loop-operation l = Pushed l.source.names l.source.exprs (plain_member l.source.names l.source.exprs) l.fn.members.items (take l.operation-index l.operations) l.members.items
