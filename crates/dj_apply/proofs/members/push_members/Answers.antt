use Rattle.std.proofs.Common.{refl}
use Rattle.std.proofs.lemmas.Option.{slice_get_read}
use Rattle.dj_tree.specs.Plain.{plain_member}
use Rattle.dj_apply.proofs.MemberLists.{pushed_none, pushed_more, pushed_all}
use Rattle.dj_apply.proofs.members.push_members.Goals as goal

pub loop-operation-init : goal.loop-operation-init
loop-operation-init c = pushed_none c.args.source.now.names c.args.source.now.exprs (plain_member c.args.source.now.names c.args.source.now.exprs) c.args.members.now.items c.requires.known

pub loop-operation-preserved : goal.loop-operation-preserved
loop-operation-preserved c =
    pushed_more c.args.source.now.names c.args.source.now.exprs (plain_member c.args.source.now.names c.args.source.now.exprs) c.args.members.now.items c.loop-operation.members.items c.push.new.self.items c.args.operations.now c.loop-operation.operation-index _ _ c.loop-operation.invariant
    (slice_get_read c.args.operations.now _ c.loop-operation.operation-index c.operation-item.result refl c.loop-operation-test.true c.operation-item.is) c.in_ok-push.ensures.items c.named_member.ensures.plain c.named_member.ensures.known

pub returns-clause-pushed : goal.returns-clause-pushed
returns-clause-pushed c =
    (pushed_all c.args.source.now.names c.args.source.now.exprs (plain_member c.args.source.now.names c.args.source.now.exprs) c.args.members.now.items c.loop-operation.members.items c.args.operations.now c.loop-operation.operation-index c.loop-operation-test.false c.loop-operation.invariant).members

pub returns-clause-known : goal.returns-clause-known
returns-clause-known c = c.loop-operation.invariant.known
