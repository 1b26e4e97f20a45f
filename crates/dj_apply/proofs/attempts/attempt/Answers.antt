use Rattle.std.proofs.Common.{sym}
use Rattle.dj_tree.specs.Plain.{plain_operation}
use Rattle.ifj_table.specs.Tables.{plain_table}
use Rattle.dj_product_laws.proofs.ForApply.{attempt_makes, attempt_stays}
use Rattle.dj_apply.proofs.attempts.attempt.Goals as goal

pub returns-in-Some-clause-table : goal.returns-in-Some-clause-table
returns-in-Some-clause-table c = sym (attempt_stays (plain_table c.args.table.now.table) (plain_operation c.args.source.now.names c.args.source.now.exprs c.args.operation.now) c.in-Some.broken.rule c.in-Some.broken.at c.in-Some.ensures.is.0)

pub returns-in-Some-clause-broken : goal.returns-in-Some-clause-broken
returns-in-Some-clause-broken c = (c.in-Some.ensures.is, c.in-Some.ensures.least)

pub returns-in_ok-apply_operation-in-None-clause-table : goal.returns-in_ok-apply_operation-in-None-clause-table
returns-in_ok-apply_operation-in-None-clause-table c = sym (attempt_makes (plain_table c.args.table.now.table) (plain_table c.apply_operation.new.table.table) (plain_operation c.args.source.now.names c.args.source.now.exprs c.args.operation.now) c.in-None.ensures c.in_ok-apply_operation-in-None.ensures)
