use Rattle.std.proofs.Common.{◌≡◌, List, [], sym, ap, ◌∙◌, subst}
use Rattle.std.specs.Prelude.{unwrap_or}
use Rattle.std.specs.FinMap.{get}
use Rattle.dj_names.specs.Texts.{Text}
use Rattle.dj_tree.specs.declared.declarations.MemberOp.{MemberOp}
use Rattle.dj_tree.specs.Plain.{plain_member, plain_change}
use Rattle.dj_tree.specs.Trees.{modifies_class}
use Rattle.dj_calculus.specs.Instances.{IsNotAfter}
use Rattle.ifj_table.specs.Tables.{plain_table}
use Rattle.ifj_table.proofs.MemberLemmas.{some_value}
use Rattle.dj_apply.specs.Least.{IsLeastBy, Among}
use Rattle.dj_apply.specs.Judging.{Breaks, MemberBreaks}
use Rattle.dj_apply.proofs.LeastLemmas.{among_mapped}
use Rattle.dj_apply.proofs.JudgeLemmas.{change_judged, class_missing}
use Rattle.dj_apply.proofs.rules.judge_change.Goals as goal

pub returns-then-has_class : goal.returns-then-has_class
returns-then-has_class c =
    let s = c.args.source.now in
    let t = plain_table c.args.table.now in
    let change = plain_change s.names s.exprs c.args.change.now in
    let there = some_value (get t change.name.text) (sym c.has_class.ensures ∙ c.if-has_class.true) in
    let named : change.name.text ≡ c.text-class.result.now = ap (λ o. unwrap_or o []) c.text-class.ensures in
    let members = subst (λ (ms : List MemberOp). IsLeastBy IsNotAfter (Among (λ (m : MemberOp). MemberBreaks t c.text-class.result.now (plain_member s.names s.exprs m)) ms) c.judge_members.result) c.as_slice.ensures c.judge_members.ensures in
    change_judged t change there.0 there.1 c.judge_members.result
    (subst (λ (name : Text). IsLeastBy IsNotAfter (Among (MemberBreaks t name) change.members) c.judge_members.result) (sym named)
    (among_mapped IsNotAfter (plain_member s.names s.exprs) (MemberBreaks t c.text-class.result.now) c.args.change.now.members c.judge_members.result members))

pub returns-else-has_class : goal.returns-else-has_class
returns-else-has_class c =
    let s = c.args.source.now in
    let t = plain_table c.args.table.now in
    let change = plain_change s.names s.exprs c.args.change.now in
    subst (IsLeastBy IsNotAfter (Breaks t (modifies_class change))) (sym c.broken.ensures) (class_missing t change (sym c.has_class.ensures ∙ c.if-has_class.false))
