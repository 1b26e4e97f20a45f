use Rattle.ifj_table.specs.Tables.{table_names}
use Rattle.ifj_typing.specs.Bodies.{BreaksBodyOf}
use Rattle.ifj_typing.specs.Kinds.{text_of}
use Rattle.ifj_typing.specs.Least.{IsLeastOf, Before, OfElement}
use Rattle.ifj_typing.proofs.bodies.method_fault.Given as goal

abbrev pub invariant-loop-body : goal.invariant-loop-body
invariant-loop-body l = IsLeastOf (Before (OfElement (BreaksBodyOf l.table (text_of (table_names l.table) l.class) l.method) l.method.bodies.items) l.body-index) l.least
