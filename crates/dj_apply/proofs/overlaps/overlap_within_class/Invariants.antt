use Rattle.std.proofs.Common.{take}
use Rattle.dj_tree.specs.Plain.{plain_operation}
use Rattle.dj_calculus.specs.Things as calculus
use Rattle.dj_calculus.specs.Things.{touched_by}
use Rattle.dj_apply.specs.Least.{IsLeastBy, Among}
use Rattle.dj_apply.specs.Overlaps.{IsNoLater, ThingClash}
use Rattle.dj_apply.proofs.overlaps.overlap_within_class.Given as goal

abbrev pub invariant-loop-number : goal.invariant-loop-number
invariant-loop-number l = IsLeastBy IsNoLater (Among (λ (a : calculus.Thing). ThingClash a (plain_operation l.source.names l.source.exprs l.other)) (take l.number (touched_by (plain_operation l.source.names l.source.exprs l.one)))) l.least
