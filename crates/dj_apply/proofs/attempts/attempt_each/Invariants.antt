use Rattle.std.proofs.Common.{take}
use Rattle.ifj_table.specs.Tables.{plain_table}
use Rattle.dj_apply.specs.Attempts.{plain_operations}
use Rattle.dj_apply.proofs.AttemptLemmas.{Attempted}
use Rattle.dj_apply.proofs.attempts.attempt_each.Given as goal

abbrev pub invariant-loop-operation : goal.invariant-loop-operation
invariant-loop-operation l = Attempted (plain_operations l.source.names l.source.exprs (take l.operation-index l.operations)) (plain_table l.fn.table.table) (plain_table l.table.table) l.least
