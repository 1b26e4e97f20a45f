use Rattle.ifj_typing.specs.Declarations.{UnknownType}
use Rattle.ifj_typing.specs.Least.{IsLeastOf, Before, OfElement}
use Rattle.ifj_typing.proofs.declarations.types_fault.Given as goal

abbrev pub invariant-loop-kind : goal.invariant-loop-kind
invariant-loop-kind l = IsLeastOf (Before (OfElement (UnknownType l.table) l.kinds) l.kind-index) l.least
