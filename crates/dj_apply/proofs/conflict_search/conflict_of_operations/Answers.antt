use Rattle.std.proofs.Common.{refl}
use Rattle.std.proofs.lemmas.Option.{slice_get_read}
use Rattle.dj_tree.specs.declared.declarations.ClassOp.{ClassOp}
use Rattle.dj_tree.specs.Plain.{plain_operation}
use Rattle.dj_apply.specs.Overlaps.{IsNoLater, ThingsClash}
use Rattle.dj_apply.proofs.LeastLemmas.{among_none, among_next, among_all, among_mapped}
use Rattle.dj_apply.proofs.OverlapLemmas.{no_later_joins}
use Rattle.dj_apply.proofs.conflict_search.conflict_of_operations.Goals as goal

pub loop-other-init : goal.loop-other-init
loop-other-init c = λ before keeps. among_none IsNoLater (λ (y : ClassOp). ThingsClash before (plain_operation c.args.source.now.names c.args.source.now.exprs y))

pub loop-other-preserved : goal.loop-other-preserved
loop-other-preserved c = λ before keeps.
    let here = slice_get_read c.args.others.now _ c.loop-other.other-index c.other-item.result refl c.loop-other-test.true c.other-item.is in
    among_next IsNoLater no_later_joins (λ (y : ClassOp). ThingsClash before (plain_operation c.args.source.now.names c.args.source.now.exprs y)) c.args.others.now c.loop-other.other-index c.other-item.result
    c.loop-other.least c.conflict_of_operation-here.result c.earlier-least.result here (c.loop-other.invariant before keeps) (c.conflict_of_operation-here.ensures before keeps) c.earlier-least.ensures

pub returns : goal.returns
returns c = λ before keeps.
    among_mapped IsNoLater (plain_operation c.args.source.now.names c.args.source.now.exprs) (ThingsClash before) c.args.others.now c.loop-other.least
    (among_all IsNoLater (λ (y : ClassOp). ThingsClash before (plain_operation c.args.source.now.names c.args.source.now.exprs y)) c.args.others.now c.loop-other.other-index c.loop-other.least c.loop-other-test.false (c.loop-other.invariant before keeps))
