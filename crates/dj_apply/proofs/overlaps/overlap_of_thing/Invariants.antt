use Rattle.std.proofs.Common.{take}
use Rattle.dj_tree.specs.Plain.{plain_operation}
use Rattle.dj_calculus.specs.Things.{touched_by}
use Rattle.dj_apply.specs.Least.{IsLeastBy, Among}
use Rattle.dj_apply.specs.Touched.{plain_thing}
use Rattle.dj_apply.specs.Overlaps.{IsNoLater, Clash}
use Rattle.dj_apply.proofs.overlaps.overlap_of_thing.Given as goal

abbrev pub invariant-loop-number : goal.invariant-loop-number
invariant-loop-number l = IsLeastBy IsNoLater (Among (Clash (plain_thing l.source.names l.one)) (take l.number (touched_by (plain_operation l.source.names l.source.exprs l.other)))) l.least
