use Rattle.std.proofs.Common.{◌≤◌, ◌++◌, take, length, sym, subst, arith}
use Rattle.std.proofs.lemmas.List.{append-nil, take_all}
use Rattle.dj_tree.specs.Plain.{plain_operation}
use Rattle.dj_calculus.specs.Things.{touched_by}
use Rattle.dj_apply.specs.Kept.{Keeps}
use Rattle.dj_apply.specs.Touched.{plain_thing}
use Rattle.dj_apply.proofs.ConflictLemmas.{things_next}
use Rattle.dj_apply.proofs.OverlapLemmas.{touched_long}
use Rattle.dj_apply.proofs.conflict_search.keep_operation.Goals as goal

pub loop-number-init : goal.loop-number-init
loop-number-init c = λ before keeps. subst (Keeps c.args.source.now.names c.args.places.now) (sym (append-nil before)) keeps

pub loop-number-preserved : goal.loop-number-preserved
loop-number-preserved c = λ before keeps.
    let things = touched_by (plain_operation c.args.source.now.names c.args.source.now.exprs c.args.other.now) in
    let thing = c.thing_at-thing.result in
    subst (Keeps c.args.source.now.names c.keep.new.self) (things_next before things c.loop-number.number (plain_thing c.args.source.now.names thing) (c.thing_at-thing.ensures.thing c.args.source.now.names c.args.source.now.exprs))
    (c.in_ok-keep.ensures c.args.source.now.names (before ++ take c.loop-number.number things) c.requires.distinct (c.thing_at-thing.ensures.known c.args.source.now.names c.args.source.now.exprs c.requires.known) (c.loop-number.invariant before keeps))

pub returns : goal.returns
returns c = λ before keeps.
    let things = touched_by (plain_operation c.args.source.now.names c.args.source.now.exprs c.args.other.now) in
    let long : length things ≤ c.loop-number.number = omega (arith, touched_long c.args.source.now.names c.args.source.now.exprs c.args.other.now, c.touched_count-count.ensures, c.loop-number-test.false) in
    subst (λ xs. Keeps c.args.source.now.names c.loop-number.places (before ++ xs)) (take_all c.loop-number.number things long) (c.loop-number.invariant before keeps)
