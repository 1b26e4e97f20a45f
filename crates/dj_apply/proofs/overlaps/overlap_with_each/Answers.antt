use Rattle.std.proofs.Common.{refl}
use Rattle.std.proofs.lemmas.Option.{slice_get_read}
use Rattle.dj_tree.specs.declared.declarations.ClassOp.{ClassOp}
use Rattle.dj_tree.specs.Plain.{plain_operation}
use Rattle.dj_apply.specs.Overlaps.{IsNoLater, OperationClash}
use Rattle.dj_apply.proofs.LeastLemmas.{among_none, among_next, among_all, among_mapped}
use Rattle.dj_apply.proofs.OverlapLemmas.{no_later_joins}
use Rattle.dj_apply.proofs.overlaps.overlap_with_each.Goals as goal

pub loop-other-init : goal.loop-other-init
loop-other-init c = among_none IsNoLater (λ (x : ClassOp). OperationClash (plain_operation c.args.source.now.names c.args.source.now.exprs c.args.one.now) (plain_operation c.args.source.now.names c.args.source.now.exprs x))

pub loop-other-preserved : goal.loop-other-preserved
loop-other-preserved c =
    let here = slice_get_read c.args.others.now _ c.loop-other.other-index c.other-item.result refl c.loop-other-test.true c.other-item.is in
    among_next IsNoLater no_later_joins (λ (x : ClassOp). OperationClash (plain_operation c.args.source.now.names c.args.source.now.exprs c.args.one.now) (plain_operation c.args.source.now.names c.args.source.now.exprs x)) c.args.others.now c.loop-other.other-index c.other-item.result
    c.loop-other.least c.overlap_of_operations-here.result c.earlier-least.result here c.loop-other.invariant c.overlap_of_operations-here.ensures c.earlier-least.ensures

pub returns : goal.returns
returns c =
    among_mapped IsNoLater (plain_operation c.args.source.now.names c.args.source.now.exprs) (OperationClash (plain_operation c.args.source.now.names c.args.source.now.exprs c.args.one.now)) c.args.others.now c.loop-other.least
    (among_all IsNoLater (λ (x : ClassOp). OperationClash (plain_operation c.args.source.now.names c.args.source.now.exprs c.args.one.now) (plain_operation c.args.source.now.names c.args.source.now.exprs x)) c.args.others.now c.loop-other.other-index c.loop-other.least c.loop-other-test.false c.loop-other.invariant)
