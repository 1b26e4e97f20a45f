use Rattle.std.proofs.Common.{ℕ, subst}
use Rattle.dj_tree.specs.declared.declarations.ClassOp.{ClassOp}
use Rattle.dj_tree.specs.Plain.{plain_class, plain_operation}
use Rattle.dj_calculus.specs.LineRules.{OperationRule}
use Rattle.ifj_table.specs.Tables.{plain_table}
use Rattle.dj_apply.proofs.Applied.{added_absent}
use Rattle.dj_apply.proofs.apply.apply_operation.Goals as goal

pub apply_class-requires-clause-absent : goal.apply_class-requires-clause-absent
apply_class-requires-clause-absent c =
    let t = plain_table c.args.table.now.table in
    added_absent t (plain_class c.args.source.now.names c.args.source.now.exprs c.in-Adds.class)
    (subst (λ (x : ClassOp). (rule at : ℕ) → ¬ (OperationRule t (plain_operation c.args.source.now.names c.args.source.now.exprs x) rule at)) c.in-Adds.is c.requires.unbroken)
