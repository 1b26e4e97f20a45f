use Rattle.std.proofs.Common.{◌≡◌, Some, slice_get, sym, subst}
use Rattle.dj_tree.specs.declared.declarations.ClassOp.{ClassOp}
use Rattle.dj_tree.specs.Plain.{plain_operation}
use Rattle.dj_tree.specs.WellFormed.{IsOperation}
use Rattle.dj_calculus.specs.Things.{touched_by}
use Rattle.dj_apply.specs.Touched.{plain_thing, IsTouched}
use Rattle.dj_apply.proofs.things.thing_at.Goals as goal

pub returns-in-Modifies-clause-thing : goal.returns-in-Modifies-clause-thing
returns-in-Modifies-clause-thing c = λ names exprs.
    subst (λ (x : ClassOp). slice_get (touched_by (plain_operation names exprs x)) c.args.number ≡ Some (plain_thing names c.touched_by_change.result)) (sym c.in-Modifies.is)
    (c.touched_by_change.ensures.thing names exprs)

pub returns-in-Modifies-clause-known : goal.returns-in-Modifies-clause-known
returns-in-Modifies-clause-known c = λ names exprs.
    subst (λ (x : ClassOp). IsOperation names exprs x → IsTouched names c.touched_by_change.result) (sym c.in-Modifies.is) (c.touched_by_change.ensures.known names exprs)
