use Rattle.ifj_typing.specs.Declarations.{OverrideDiffers}
use Rattle.ifj_typing.specs.Least.{IsLeastOf, Before, OfElement}
use Rattle.ifj_typing.proofs.inheritance.methods_fault.Given as goal

abbrev pub invariant-loop-method : goal.invariant-loop-method
invariant-loop-method l = IsLeastOf (Before (OfElement (OverrideDiffers l.table l.class) l.class.methods.items) l.method-index) l.least
