use Rattle.std.proofs.Common.{take}
use Rattle.dj_tree.specs.declared.declarations.MemberOp.{MemberOp}
use Rattle.dj_tree.specs.Plain.{plain_member}
use Rattle.dj_calculus.specs.Instances.{IsNotAfter}
use Rattle.ifj_table.specs.Tables.{plain_table}
use Rattle.dj_apply.specs.Least.{IsLeastBy, Among}
use Rattle.dj_apply.specs.Judging.{MemberBreaks}
use Rattle.dj_apply.proofs.rules.judge_members.Given as goal

-- the least that the members so far break
abbrev pub invariant-loop-member : goal.invariant-loop-member
invariant-loop-member l =
    IsLeastBy IsNotAfter (Among (λ (m : MemberOp). MemberBreaks (plain_table l.table) l.class (plain_member l.source.names l.source.exprs m)) (take l.member-index l.members)) l.least
