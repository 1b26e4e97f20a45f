-- What a table is seen as.
use Rattle.std.specs.Prelude.{ℕ, List, map}
use Rattle.dj_names.specs.Texts.{Text}
use Rattle.dj_tree.specs.declared.expression.ExprNode.{ExprNode}
use Rattle.dj_calculus.specs.Tables as calculus
use Rattle.ifj_table.specs.Entries.{text_at, classes_of}
use Rattle.ifj_table.specs.declared.entry.ClassEntry.{ClassEntry}
use Rattle.ifj_table.specs.declared.table.Table.{Table}

-- its names, its nodes and its classes
abbrev pub table_names : Table → List Text
table_names t = t.names

abbrev pub table_nodes : Table → List ExprNode
table_nodes t = t.exprs

abbrev pub table_classes : Table → List ClassEntry
table_classes t = t.classes.items

-- the class table that it stands for
abbrev pub plain_table : Table → calculus.Table
plain_table t = classes_of t.names t.exprs t.classes.items

-- the text of a name of the table
abbrev pub name_text : Table → ℕ → Text
name_text t number = text_at t.names (record { name = record { 0 = number }; at = 0 })

-- the names of its classes, in order
abbrev pub class_keys : Table → List Text
class_keys t = map (λ c. text_at t.names c.spot) t.classes.items
