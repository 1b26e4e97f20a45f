use Rattle.std.proofs.Common.{List, take}
use Rattle.dj_tree.specs.Plain.{plain_operation}
use Rattle.dj_calculus.specs.Things as calculus
use Rattle.dj_calculus.specs.Things.{touched_by}
use Rattle.dj_apply.specs.Kept.{Keeps}
use Rattle.dj_apply.specs.Least.{IsLeastBy, Among}
use Rattle.dj_apply.specs.Overlaps.{IsNoLater, Clash}
use Rattle.dj_apply.proofs.conflict_search.conflict_of_operation.Given as goal

abbrev pub invariant-loop-number : goal.invariant-loop-number
invariant-loop-number l = (before : List calculus.Thing) → Keeps l.source.names l.places before
    → IsLeastBy IsNoLater (Among (λ (b : calculus.Thing). Among (λ (a : calculus.Thing). Clash a b) before) (take l.number (touched_by (plain_operation l.source.names l.source.exprs l.other)))) l.least
