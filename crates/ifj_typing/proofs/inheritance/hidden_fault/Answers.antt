use Rattle.ifj_table.specs.Tables.{table_names}
use Rattle.ifj_typing.specs.Kinds.{text_of}
use Rattle.ifj_typing.proofs.Stating.{stated_so}
use Rattle.ifj_typing.proofs.inheritance.hidden_fault.Goals as goal

pub returns-in-Some : goal.returns-in-Some
returns-in-Some c = stated_so 12 c.args.field.spot.at c.instance.result c.instance.ensures (text_of (table_names c.args.table.now) c.in-Some.field-0, c.in-Some.ensures.found)
