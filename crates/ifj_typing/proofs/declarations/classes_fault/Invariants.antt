use Rattle.ifj_table.specs.Tables.{table_classes}
use Rattle.ifj_typing.specs.Declarations.{BreaksDeclaration}
use Rattle.ifj_typing.specs.Least.{IsLeastOf, Before, OfElement}
use Rattle.ifj_typing.proofs.declarations.classes_fault.Given as goal

abbrev pub invariant-loop-number : goal.invariant-loop-number
invariant-loop-number l = IsLeastOf (Before (OfElement (BreaksDeclaration l.table) (table_classes l.table)) l.number) l.least
