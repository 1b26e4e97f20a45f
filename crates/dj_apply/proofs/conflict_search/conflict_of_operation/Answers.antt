use Rattle.std.proofs.Common.{◌≤◌, length, arith}
use Rattle.dj_tree.specs.Plain.{plain_operation}
use Rattle.dj_calculus.specs.Things as calculus
use Rattle.dj_calculus.specs.Things.{touched_by}
use Rattle.dj_apply.specs.Least.{Among}
use Rattle.dj_apply.specs.Touched.{plain_thing}
use Rattle.dj_apply.specs.Overlaps.{IsNoLater, Clash}
use Rattle.dj_apply.proofs.LeastLemmas.{among_none, among_next, among_all}
use Rattle.dj_apply.proofs.OverlapLemmas.{no_later_joins, touched_long}
use Rattle.dj_apply.proofs.conflict_search.conflict_of_operation.Goals as goal

pub loop-number-init : goal.loop-number-init
loop-number-init c = λ before keeps. among_none IsNoLater (λ (b : calculus.Thing). Among (λ (a : calculus.Thing). Clash a b) before)

pub loop-number-preserved : goal.loop-number-preserved
loop-number-preserved c = λ before keeps.
    among_next IsNoLater no_later_joins (λ (b : calculus.Thing). Among (λ (a : calculus.Thing). Clash a b) before) (touched_by (plain_operation c.args.source.now.names c.args.source.now.exprs c.args.other.now)) c.loop-number.number (plain_thing c.args.source.now.names c.thing_at-thing.result)
    c.loop-number.least c.conflict_with-here.result c.earlier-least.result (c.thing_at-thing.ensures.thing c.args.source.now.names c.args.source.now.exprs) (c.loop-number.invariant before keeps)
    (c.conflict_with-here.ensures c.args.source.now.names before (c.thing_at-thing.ensures.known c.args.source.now.names c.args.source.now.exprs c.requires.known) keeps) c.earlier-least.ensures

pub returns : goal.returns
returns c = λ before keeps.
    let long : length (touched_by (plain_operation c.args.source.now.names c.args.source.now.exprs c.args.other.now)) ≤ c.loop-number.number =
    omega (arith, touched_long c.args.source.now.names c.args.source.now.exprs c.args.other.now, c.touched_count-count.ensures, c.loop-number-test.false) in
    among_all IsNoLater (λ (b : calculus.Thing). Among (λ (a : calculus.Thing). Clash a b) before) (touched_by (plain_operation c.args.source.now.names c.args.source.now.exprs c.args.other.now)) c.loop-number.number c.loop-number.least long (c.loop-number.invariant before keeps)
