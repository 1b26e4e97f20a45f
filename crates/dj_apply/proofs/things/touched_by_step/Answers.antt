use Rattle.dj_tree.specs.WellFormed.{IsMember}
use Rattle.ifj_table.proofs.TableLemmas.{all_at}
use Rattle.dj_apply.specs.Touched.{text_of, plain_thing}
use Rattle.dj_apply.proofs.TouchLemmas.{step_thing_alone, step_thing_behind}
use Rattle.dj_apply.proofs.things.touched_by_step.Goals as goal

pub returns-else-number-eq0-clause-thing : goal.returns-else-number-eq0-clause-thing
returns-else-number-eq0-clause-thing c = λ names exprs.
    step_thing_behind names exprs (text_of names c.args.change.now.spot.name.0) c.args.change.now.members c.args.change.now.parent c.in-Some.parent c.args.number c.member_at-member.result.now
    (plain_thing names c.touched_by_member.result) c.in-Some.is c.if-number-eq0.false c.member_at-member.ensures (c.touched_by_member.ensures.thing names exprs)

pub returns-else-number-eq0-clause-known : goal.returns-else-number-eq0-clause-known
returns-else-number-eq0-clause-known c = λ names exprs known.
    c.touched_by_member.ensures.known names exprs known.spot (all_at (IsMember names exprs) c.args.change.now.members _ c.member_at-member.result.now known.members c.member_at-member.ensures)

pub returns-in-None-clause-thing : goal.returns-in-None-clause-thing
returns-in-None-clause-thing c = λ names exprs.
    step_thing_alone names exprs (text_of names c.args.change.now.spot.name.0) c.args.change.now.members c.args.change.now.parent c.args.number c.member_at-member-in-None.result.now
    (plain_thing names c.touched_by_member-in-None.result) c.in-None.is c.member_at-member-in-None.ensures (c.touched_by_member-in-None.ensures.thing names exprs)

pub returns-in-None-clause-known : goal.returns-in-None-clause-known
returns-in-None-clause-known c = λ names exprs known.
    c.touched_by_member-in-None.ensures.known names exprs known.spot (all_at (IsMember names exprs) c.args.change.now.members _ c.member_at-member-in-None.result.now known.members c.member_at-member-in-None.ensures)
