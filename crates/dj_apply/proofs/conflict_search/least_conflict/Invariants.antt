use Rattle.std.proofs.Common.{take}
use Rattle.dj_calculus.specs.Parts.{chain}
use Rattle.dj_line.specs.Lines.{plain_line}
use Rattle.dj_apply.specs.Least.{IsLeastBy, Among}
use Rattle.dj_apply.specs.Overlaps.{IsNoLater, PartClash}
use Rattle.dj_apply.proofs.conflict_search.least_conflict.Given as goal

-- the least one in the parts so far
abbrev pub invariant-loop-number : goal.invariant-loop-number
invariant-loop-number l = IsLeastBy IsNoLater (Among (PartClash (plain_line l.line) l.config.chosen.items) (take l.number (chain (plain_line l.line)))) l.least
