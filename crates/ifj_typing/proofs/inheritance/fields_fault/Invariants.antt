use Rattle.ifj_typing.specs.Declarations.{HiddenField}
use Rattle.ifj_typing.specs.Least.{IsLeastOf, Before, OfElement}
use Rattle.ifj_typing.proofs.inheritance.fields_fault.Given as goal

abbrev pub invariant-loop-field : goal.invariant-loop-field
invariant-loop-field l = IsLeastOf (Before (OfElement (HiddenField l.table l.class) l.class.fields.items) l.field-index) l.least
