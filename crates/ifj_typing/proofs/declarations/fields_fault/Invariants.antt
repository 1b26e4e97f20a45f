use Rattle.ifj_typing.specs.Declarations.{UnknownFieldType}
use Rattle.ifj_typing.specs.Least.{IsLeastOf, Before, OfElement}
use Rattle.ifj_typing.proofs.declarations.fields_fault.Given as goal

abbrev pub invariant-loop-field : goal.invariant-loop-field
invariant-loop-field l = IsLeastOf (Before (OfElement (UnknownFieldType l.table) l.class.fields.items) l.field-index) l.least
