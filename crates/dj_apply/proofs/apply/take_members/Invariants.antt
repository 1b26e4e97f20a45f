use Rattle.std.proofs.Common.{map, take}
use Rattle.dj_calculus.specs.Things.{does}
use Rattle.ifj_table.specs.Tables.{plain_table}
use Rattle.dj_apply.specs.Members.{plain_members}
use Rattle.dj_apply.specs.Taking.{Takes}
use Rattle.dj_apply.proofs.apply.take_members.Given as goal

-- the members so far are taken
abbrev pub invariant-loop-member : goal.invariant-loop-member
invariant-loop-member l =
    Takes (plain_table l.fn.table.table) (plain_table l.table.table) l.class (take l.member-index (map does (plain_members l.source.names l.source.exprs l.members)))
