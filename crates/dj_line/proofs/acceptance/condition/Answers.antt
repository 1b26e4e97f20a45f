use Rattle.std.proofs.Common.{Option, Result, Ok, Err, IfOk, sym, subst}
use Rattle.arena_walk.specs.declared.arena.NodeId.{NodeId}
use Rattle.dj_tree.specs.Trees as plain
use Rattle.dj_tree.specs.Plain.{plain_source}
use Rattle.dj_formula.specs.declared.formula.Formula.{Formula}
use Rattle.dj_conditions.specs.Conditions.{StandsFor}
use Rattle.dj_line.specs.Numbering.{when_formula}
use Rattle.dj_line.proofs.acceptance.condition.Goals as goal

at_source : {E : Type 0} (source : plain.Source) (result : Result Formula E) → IfOk result (λ formula. (any : plain.Source) → StandsFor any formula plain.always) → IfOk result (λ formula. StandsFor source formula plain.always)
at_source source (Ok formula) h = h source
at_source source (Err e) h = tt

pub returns-in-None : goal.returns-in-None
returns-in-None c =
    let s = c.args.source.now in
    let P : Option NodeId → Type 0 = λ when. IfOk c.constant_true.result (λ formula. StandsFor (plain_source s) formula (when_formula s when)) in
    subst P (sym c.in-None.is) (at_source (plain_source s) c.constant_true.result c.constant_true.ensures)
