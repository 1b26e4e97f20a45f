use Rattle.std.proofs.Common.{Some, map}
use Rattle.dj_tree.specs.Plain.{plain_change}
use Rattle.dj_calculus.specs.Things.{mention, steps_of, thing_of}
use Rattle.dj_apply.specs.Touched.{text_of, plain_thing}
use Rattle.dj_apply.proofs.TouchLemmas.{later_get}
use Rattle.dj_apply.proofs.things.touched_by_change.Goals as goal

pub returns-else-number-eq0-clause-thing : goal.returns-else-number-eq0-clause-thing
returns-else-number-eq0-clause-thing c = λ names exprs.
    later_get (record { class = text_of names c.args.change.now.spot.name.0; touch = mention; at = c.args.change.now.spot.at })
    (map (thing_of (text_of names c.args.change.now.spot.name.0)) (steps_of (plain_change names exprs c.args.change.now))) c.args.number (Some (plain_thing names c.touched_by_step.result))
    c.if-number-eq0.false (c.touched_by_step.ensures.thing names exprs)
