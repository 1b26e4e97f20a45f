use Rattle.std.proofs.Common.{refl}
use Rattle.std.proofs.lemmas.Option.{slice_get_read}
use Rattle.ifj_table.specs.Tables.{plain_table}
use Rattle.ifj_table.proofs.TableLemmas.{all_at}
use Rattle.dj_apply.proofs.AttemptLemmas.{ReadyOperation, attempted_none, attempted_next, attempted_all}
use Rattle.dj_apply.proofs.attempts.attempt_each.Goals as goal

pub loop-operation-init : goal.loop-operation-init
loop-operation-init c = attempted_none (plain_table c.args.table.now.table)

pub attempt-requires : goal.attempt-requires
attempt-requires c = all_at (ReadyOperation c.args.source.now.names c.args.source.now.exprs) c.args.operations.now c.loop-operation.operation-index c.operation-item.result c.requires (slice_get_read c.args.operations.now _ c.loop-operation.operation-index c.operation-item.result refl c.loop-operation-test.true c.operation-item.is)

pub loop-operation-preserved : goal.loop-operation-preserved
loop-operation-preserved c =
    attempted_next c.args.source.now.names c.args.source.now.exprs c.args.operations.now c.loop-operation.operation-index c.operation-item.result (plain_table c.args.table.now.table) (plain_table c.loop-operation.table.table) (plain_table c.attempt.new.table.table)
    c.loop-operation.least c.in_ok-here.here c.earlier-least.result (slice_get_read c.args.operations.now _ c.loop-operation.operation-index c.operation-item.result refl c.loop-operation-test.true c.operation-item.is) c.loop-operation.invariant c.in_ok-here.ensures.table c.in_ok-here.ensures.broken c.earlier-least.ensures

pub returns-clause-table : goal.returns-clause-table
returns-clause-table c =
    (attempted_all c.args.source.now.names c.args.source.now.exprs c.args.operations.now c.loop-operation.operation-index (plain_table c.args.table.now.table) (plain_table c.loop-operation.table.table) c.loop-operation.least c.loop-operation-test.false c.loop-operation.invariant).table

pub returns-clause-met : goal.returns-clause-met
returns-clause-met c =
    (attempted_all c.args.source.now.names c.args.source.now.exprs c.args.operations.now c.loop-operation.operation-index (plain_table c.args.table.now.table) (plain_table c.loop-operation.table.table) c.loop-operation.least c.loop-operation-test.false c.loop-operation.invariant).least_met
