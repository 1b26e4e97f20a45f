use Rattle.std.proofs.Common.{List, ◌++◌, map, take, refl, sym, subst}
use Rattle.std.specs.List.{flat_map}
use Rattle.std.proofs.lemmas.List.{append-nil, take_all}
use Rattle.std.proofs.lemmas.Option.{slice_get_read}
use Rattle.dj_tree.specs.declared.declarations.ClassOp.{ClassOp}
use Rattle.dj_tree.specs.Plain.{plain_operation}
use Rattle.dj_calculus.specs.Things.{touched_by}
use Rattle.dj_apply.specs.Kept.{Keeps}
use Rattle.dj_apply.proofs.ConflictLemmas.{touched_next}
use Rattle.dj_apply.proofs.conflict_search.keep_operations.Goals as goal

pub loop-other-init : goal.loop-other-init
loop-other-init c = λ before keeps. subst (Keeps c.args.source.now.names c.args.places.now) (sym (append-nil before)) keeps

pub loop-other-preserved : goal.loop-other-preserved
loop-other-preserved c = λ before keeps.
    let here = slice_get_read c.args.others.now _ c.loop-other.other-index c.other-item.result refl c.loop-other-test.true c.other-item.is in
    subst (Keeps c.args.source.now.names c.keep_operation.new.places) (touched_next c.args.source.now.names c.args.source.now.exprs before c.args.others.now c.loop-other.other-index c.other-item.result here)
    (c.in_ok-keep_operation.ensures (before ++ flat_map touched_by (map (plain_operation c.args.source.now.names c.args.source.now.exprs) (take c.loop-other.other-index c.args.others.now))) (c.loop-other.invariant before keeps))

pub returns : goal.returns
returns c = λ before keeps.
    subst (λ (xs : List ClassOp). Keeps c.args.source.now.names c.loop-other.places (before ++ flat_map touched_by (map (plain_operation c.args.source.now.names c.args.source.now.exprs) xs))) (take_all c.loop-other.other-index c.args.others.now c.loop-other-test.false) (c.loop-other.invariant before keeps)
