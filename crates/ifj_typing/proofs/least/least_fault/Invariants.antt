use Rattle.ifj_typing.specs.Least.{IsLeastOf, Before, OfElement, IsFault}
use Rattle.ifj_typing.proofs.least.least_fault.Given as goal

abbrev pub invariant-loop-out : goal.invariant-loop-out
invariant-loop-out l = IsLeastOf (Before (OfElement IsFault l.outs) l.out-index) l.least
