use Rattle.std.proofs.Common.{refl}
use Rattle.std.proofs.lemmas.Option.{slice_get_read}
use Rattle.dj_apply.specs.Ready.{IsReady}
use Rattle.ifj_table.proofs.TableLemmas.{all_at}
use Rattle.dj_apply.proofs.AttemptLemmas.{listed_none, listed_more, listed_all}
use Rattle.dj_apply.proofs.attempts.push_operations.Goals as goal

pub loop-operation-init : goal.loop-operation-init
loop-operation-init c = listed_none c.args.source.now.names c.args.source.now.exprs c.args.operations.now.items c.requires.others_ready

pub text-name-requires : goal.text-name-requires
text-name-requires c =
    let ready = all_at (IsReady c.args.source.now.names c.args.source.now.exprs) c.args.more.now c.loop-operation.operation-index c.operation-item.result c.requires.ready (slice_get_read c.args.more.now _ c.loop-operation.operation-index c.operation-item.result refl c.loop-operation-test.true c.operation-item.is) in
    c.class_of-class.ensures.known c.args.source.now.names c.args.source.now.exprs ready.known

pub loop-operation-preserved : goal.loop-operation-preserved
loop-operation-preserved c =
    listed_more c.args.source.now.names c.args.source.now.exprs c.args.operations.now.items c.loop-operation.operations.items c.push.new.self.items c.args.more.now c.loop-operation.operation-index c.operation-item.result _ c.loop-operation.invariant
    (slice_get_read c.args.more.now _ c.loop-operation.operation-index c.operation-item.result refl c.loop-operation-test.true c.operation-item.is) c.in_ok-push.ensures.items refl
    (all_at (IsReady c.args.source.now.names c.args.source.now.exprs) c.args.more.now c.loop-operation.operation-index c.operation-item.result c.requires.ready (slice_get_read c.args.more.now _ c.loop-operation.operation-index c.operation-item.result refl c.loop-operation-test.true c.operation-item.is))

pub returns-clause-pushed : goal.returns-clause-pushed
returns-clause-pushed c = (listed_all c.args.source.now.names c.args.source.now.exprs c.args.operations.now.items c.loop-operation.operations.items c.args.more.now c.loop-operation.operation-index c.loop-operation-test.false c.loop-operation.invariant).operations

pub returns-clause-ready : goal.returns-clause-ready
returns-clause-ready c = c.loop-operation.invariant.ready
