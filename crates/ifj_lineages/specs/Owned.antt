-- A method with the class that has it.
use Rattle.dj_names.specs.Texts.{Text}
use Rattle.dj_calculus.specs.Subclasses.{NearestMethod}
use Rattle.ifj_table.specs.Tables.{plain_table, table_names, table_nodes}
use Rattle.ifj_table.specs.Entries.{plain_method}
use Rattle.ifj_table.specs.Held.{IsMethodEntry}
use Rattle.ifj_table.specs.Lookups.{IsClassNamed}
use Rattle.ifj_table.specs.declared.entry.ClassEntry.{ClassEntry}
use Rattle.ifj_table.specs.declared.entry.MethodEntry.{MethodEntry}
use Rattle.ifj_table.specs.declared.table.Table.{Table}

-- the method is the nearest of this name from a class on, and its owner is this class
pub record IsOwned (t : Table) (class m : Text) (owner : ClassEntry) (method : MethodEntry) : Type 0 where
  pub name : Text
  pub owner_named : IsClassNamed t name owner
  pub nearest : NearestMethod (plain_table t) class m name (plain_method (table_names t) (table_nodes t) method)
  pub held : IsMethodEntry (table_names t) (table_nodes t) method
