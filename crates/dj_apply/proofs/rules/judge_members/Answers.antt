use Rattle.std.proofs.Common.{refl}
use Rattle.std.proofs.lemmas.Option.{slice_get_read}
use Rattle.dj_tree.specs.declared.declarations.MemberOp.{MemberOp}
use Rattle.dj_tree.specs.Plain.{plain_member}
use Rattle.dj_calculus.specs.Instances.{IsNotAfter}
use Rattle.ifj_table.specs.Tables.{plain_table}
use Rattle.dj_apply.specs.Judging.{MemberBreaks}
use Rattle.dj_apply.proofs.LeastLemmas.{among_none, among_next, among_all}
use Rattle.dj_apply.proofs.JudgeLemmas.{not_after_joins}
use Rattle.dj_apply.proofs.rules.judge_members.Goals as goal

pub loop-member-init : goal.loop-member-init
loop-member-init c = among_none IsNotAfter (λ (m : MemberOp). MemberBreaks (plain_table c.args.table.now) c.args.class.now (plain_member c.args.source.now.names c.args.source.now.exprs m))

pub loop-member-preserved : goal.loop-member-preserved
loop-member-preserved c =
    let here = slice_get_read c.args.members.now _ c.loop-member.member-index c.member-item.result refl c.loop-member-test.true c.member-item.is in
    among_next IsNotAfter not_after_joins (λ (m : MemberOp). MemberBreaks (plain_table c.args.table.now) c.args.class.now (plain_member c.args.source.now.names c.args.source.now.exprs m)) c.args.members.now
    c.loop-member.member-index c.member-item.result c.loop-member.least c.judge_member-here.result c.earlier-least.result here c.loop-member.invariant c.judge_member-here.ensures c.earlier-least.ensures

pub returns : goal.returns
returns c =
    among_all IsNotAfter (λ (m : MemberOp). MemberBreaks (plain_table c.args.table.now) c.args.class.now (plain_member c.args.source.now.names c.args.source.now.exprs m)) c.args.members.now
    c.loop-member.member-index c.loop-member.least c.loop-member-test.false c.loop-member.invariant
