use Rattle.std.proofs.Common.{refl}
use Rattle.std.proofs.lemmas.Option.{slice_get_read}
use Rattle.dj_tree.specs.declared.declarations.Method.{Method}
use Rattle.dj_tree.specs.Trees.{adds_method}
use Rattle.dj_tree.specs.Plain.{plain_method}
use Rattle.dj_tree.specs.WellFormed.{IsMethod}
use Rattle.ifj_table.proofs.TableLemmas.{all_at}
use Rattle.dj_apply.proofs.MemberLists.{pushed_none, pushed_more, pushed_all}
use Rattle.dj_apply.proofs.members.push_methods.Goals as goal

pub loop-method-init : goal.loop-method-init
loop-method-init c = pushed_none c.args.source.now.names c.args.source.now.exprs (λ (m : Method). adds_method (plain_method c.args.source.now.names c.args.source.now.exprs m)) c.args.members.now.items c.requires.known

pub loop-method-preserved : goal.loop-method-preserved
loop-method-preserved c =
    pushed_more c.args.source.now.names c.args.source.now.exprs (λ (m : Method). adds_method (plain_method c.args.source.now.names c.args.source.now.exprs m)) c.args.members.now.items c.loop-method.members.items c.push.new.self.items c.args.methods.now c.loop-method.method-index _ _ c.loop-method.invariant
    (slice_get_read c.args.methods.now _ c.loop-method.method-index c.method-item.result refl c.loop-method-test.true c.method-item.is) c.in_ok-push.ensures.items refl (all_at (IsMethod c.args.source.now.names c.args.source.now.exprs) c.args.methods.now c.loop-method.method-index c.method-item.result c.requires.methods_known (slice_get_read c.args.methods.now _ c.loop-method.method-index c.method-item.result refl c.loop-method-test.true c.method-item.is))

pub returns-clause-pushed : goal.returns-clause-pushed
returns-clause-pushed c =
    (pushed_all c.args.source.now.names c.args.source.now.exprs (λ (m : Method). adds_method (plain_method c.args.source.now.names c.args.source.now.exprs m)) c.args.members.now.items c.loop-method.members.items c.args.methods.now c.loop-method.method-index c.loop-method-test.false c.loop-method.invariant).members

pub returns-clause-known : goal.returns-clause-known
returns-clause-known c = c.loop-method.invariant.known
