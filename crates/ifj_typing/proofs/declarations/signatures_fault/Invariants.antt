use Rattle.ifj_typing.specs.Declarations.{UnknownInSignature}
use Rattle.ifj_typing.specs.Least.{IsLeastOf, Before, OfElement}
use Rattle.ifj_typing.proofs.declarations.signatures_fault.Given as goal

abbrev pub invariant-loop-method : goal.invariant-loop-method
invariant-loop-method l = IsLeastOf (Before (OfElement (UnknownInSignature l.table) l.class.methods.items) l.method-index) l.least
