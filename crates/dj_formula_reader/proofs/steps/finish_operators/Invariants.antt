use Rattle.std.proofs.Common.{◌≡◌, length}
use Rattle.dj_formula_reader.proofs.Finishing.{Finishing}
use Rattle.dj_formula_reader.proofs.steps.finish_operators.Given as goal

abbrev pub invariant-tops : goal.invariant-tops
invariant-tops l =
    Finishing l.bytes l.least l.initial.machine.frames l.initial.machine.marks.items l.machine.frames l.machine.marks.items × (l.machine.is_waiting ≡ l.initial.machine.is_waiting)

abbrev pub decreases-tops : goal.decreases-tops
decreases-tops l = length l.machine.frames
