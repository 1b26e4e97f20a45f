use Rattle.ifj_table.specs.Tables.{table_names}
use Rattle.ifj_table.specs.Entries.{text_at}
use Rattle.ifj_typing.specs.Bodies.{BreaksMethodOf}
use Rattle.ifj_typing.specs.Least.{IsLeastOf, Before, OfElement}
use Rattle.ifj_typing.proofs.bodies.class_fault.Given as goal

abbrev pub invariant-loop-method : goal.invariant-loop-method
invariant-loop-method l = IsLeastOf (Before (OfElement (BreaksMethodOf l.table (text_at (table_names l.table) l.class.spot)) l.class.methods.items) l.method-index) l.least
