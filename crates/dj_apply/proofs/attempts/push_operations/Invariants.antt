use Rattle.std.proofs.Common.{take}
use Rattle.dj_apply.proofs.AttemptLemmas.{Listed}
use Rattle.dj_apply.proofs.attempts.push_operations.Given as goal

abbrev pub invariant-loop-operation : goal.invariant-loop-operation
invariant-loop-operation l = Listed l.source.names l.source.exprs l.fn.operations.items (take l.operation-index l.more) l.operations.items
