use Rattle.ifj_table.specs.Tables.{table_classes}
use Rattle.ifj_typing.specs.Bodies.{BreaksClassOf}
use Rattle.ifj_typing.specs.Least.{IsLeastOf, Before, OfElement}
use Rattle.ifj_typing.proofs.bodies.bodies_fault.Given as goal

abbrev pub invariant-loop-class : goal.invariant-loop-class
invariant-loop-class l = IsLeastOf (Before (OfElement (BreaksClassOf l.table) (table_classes l.table)) l.class-index) l.least
