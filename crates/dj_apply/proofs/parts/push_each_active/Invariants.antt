use Rattle.std.proofs.Common.{◌≡◌, take}
use Rattle.std.specs.Prelude.{All}
use Rattle.dj_line.specs.Lines.{plain_line}
use Rattle.dj_apply.specs.ActiveOperations.{active_operations}
use Rattle.dj_apply.specs.Attempts.{plain_operations}
use Rattle.dj_apply.proofs.AttemptLemmas.{ReadyOperation}
use Rattle.dj_apply.proofs.parts.push_each_active.Given as goal

abbrev pub invariant-loop-delta : goal.invariant-loop-delta
invariant-loop-delta l =
    (plain_operations l.source.names l.source.exprs l.operations.items ≡ active_operations (plain_line l.line) l.config.chosen.items (take l.delta-index l.deltas))
    × All (ReadyOperation l.source.names l.source.exprs) l.operations.items
