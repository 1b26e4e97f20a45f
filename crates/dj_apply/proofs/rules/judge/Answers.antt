use Rattle.std.proofs.Common.{Some, None, sym, ap, ◌∙◌, subst}
use Rattle.std.specs.Prelude.{not, if◌then◌else◌}
use Rattle.dj_tree.specs.declared.declarations.ClassOp.{ClassOp}
use Rattle.dj_tree.specs.Plain.{plain_spot, plain_class, plain_change, plain_operation}
use Rattle.dj_tree.specs.Trees.{adds_class, modifies_class, removes_class}
use Rattle.ifj_table.specs.Tables.{plain_table}
use Rattle.dj_apply.specs.Judging.{instance_at}
use Rattle.dj_apply.proofs.JudgeLemmas.{Judged, judged, added_judged, removed_judged}
use Rattle.dj_apply.proofs.rules.judge.Goals as goal

pub returns-in-Adds : goal.returns-in-Adds
returns-in-Adds c =
    let s = c.args.source.now in
    let t = plain_table c.args.table.now in
    let class = plain_class s.names s.exprs c.in-Adds.class in
    subst (λ (x : ClassOp). Judged t (plain_operation s.names s.exprs x) c.broken.result) (sym c.in-Adds.is)
    (judged t (adds_class class) c.broken.result (added_judged t class c.broken.result (c.broken.ensures ∙ ap (λ b. if b then Some (instance_at 2 class.name.at) else None) c.has_class.ensures)))

pub returns-in-Removes : goal.returns-in-Removes
returns-in-Removes c =
    let s = c.args.source.now in
    let t = plain_table c.args.table.now in
    let class = plain_spot s.names c.in-Removes.spot in
    subst (λ (x : ClassOp). Judged t (plain_operation s.names s.exprs x) c.broken-in-Removes.result) (sym c.in-Removes.is)
    (judged t (removes_class class) c.broken-in-Removes.result
    (removed_judged t class c.broken-in-Removes.result (c.broken-in-Removes.ensures ∙ ap (λ b. if not b then Some (instance_at 3 class.at) else None) c.has_class-in-Removes.ensures)))

pub returns-in-Modifies : goal.returns-in-Modifies
returns-in-Modifies c =
    let s = c.args.source.now in
    let t = plain_table c.args.table.now in
    subst (λ (x : ClassOp). Judged t (plain_operation s.names s.exprs x) c.judge_change.result) (sym c.in-Modifies.is)
    (judged t (modifies_class (plain_change s.names s.exprs c.in-Modifies.change)) c.judge_change.result c.judge_change.ensures)
