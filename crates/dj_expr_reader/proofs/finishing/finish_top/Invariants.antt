use Rattle.std.proofs.Common.{◌≡◌, length}
use Rattle.dj_expr_reader.proofs.TakenOff.{Finishing}
use Rattle.dj_expr_reader.proofs.finishing.finish_top.Given as goal

abbrev pub invariant-tops : goal.invariant-tops
invariant-tops l = Finishing l.initial.machine.frames l.initial.machine.marks.items l.machine.frames l.machine.marks.items × (l.machine.mode ≡ l.initial.machine.mode)

abbrev pub decreases-tops : goal.decreases-tops
decreases-tops l = length l.machine.frames
