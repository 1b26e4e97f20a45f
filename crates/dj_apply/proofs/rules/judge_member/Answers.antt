use Rattle.std.proofs.Common.{sym, subst}
use Rattle.dj_tree.specs.declared.declarations.MemberOp.{MemberOp}
use Rattle.dj_tree.specs.Plain.{plain_member}
use Rattle.dj_calculus.specs.Instances.{IsNotAfter}
use Rattle.ifj_table.specs.Tables.{plain_table}
use Rattle.dj_apply.specs.Least.{IsLeastBy}
use Rattle.dj_apply.specs.Judging.{MemberBreaks}
use Rattle.dj_apply.proofs.rules.judge_member.Goals as goal

pub returns-in-ModifiesMethod : goal.returns-in-ModifiesMethod
returns-in-ModifiesMethod c =
    subst (λ (m : MemberOp). IsLeastBy IsNotAfter (MemberBreaks (plain_table c.args.table.now) c.args.class.now (plain_member c.args.source.now.names c.args.source.now.exprs m)) c.judge_modified.result)
    (sym c.in-ModifiesMethod.is) c.judge_modified.ensures
