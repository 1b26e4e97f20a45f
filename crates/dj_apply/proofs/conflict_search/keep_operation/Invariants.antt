use Rattle.std.proofs.Common.{List, ◌++◌, take}
use Rattle.dj_tree.specs.Plain.{plain_operation}
use Rattle.dj_calculus.specs.Things as calculus
use Rattle.dj_calculus.specs.Things.{touched_by}
use Rattle.dj_apply.specs.Kept.{Keeps}
use Rattle.dj_apply.proofs.conflict_search.keep_operation.Given as goal

abbrev pub invariant-loop-number : goal.invariant-loop-number
invariant-loop-number l = (before : List calculus.Thing) → Keeps l.source.names l.fn.places before
    → Keeps l.source.names l.places (before ++ take l.number (touched_by (plain_operation l.source.names l.source.exprs l.other)))
