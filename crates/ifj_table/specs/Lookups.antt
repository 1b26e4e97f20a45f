-- What a search for a member finds.
use Rattle.std.specs.Prelude.{◌≡◌, ◌<◌, ℕ, length, slice_get, Option, Some}
use Rattle.std.specs.Option.{option_and_then}
use Rattle.std.specs.FinMap.{get}
use Rattle.dj_names.specs.Texts.{Text}
use Rattle.dj_calculus.specs.Subclasses.{NearestField, NearestMethod}
use Rattle.dj_calculus.specs.Tables as calculus
use Rattle.ifj_table.specs.Entries.{text_at, plain_field, plain_method}
use Rattle.ifj_table.specs.Tables.{plain_table, table_names, table_nodes, table_classes, name_text}
use Rattle.ifj_table.specs.declared.entry.FieldEntry.{FieldEntry}
use Rattle.ifj_table.specs.declared.entry.MethodEntry.{MethodEntry}
use Rattle.ifj_table.specs.declared.entry.ClassEntry.{ClassEntry}
use Rattle.ifj_table.specs.declared.table.Table.{Table}
use Rattle.ifj_table.specs.declared.lookups.Found.{Found}

-- an entry of the table is its class of this name
pub record IsClassNamed (t : Table) (name : Text) (class : ClassEntry) : Type 0 where
  pub number : ℕ
  pub stands : slice_get (table_classes t) number ≡ Some class
  pub named : text_at (table_names t) class.spot ≡ name

-- what a class of the table itself has
abbrev pub own_field : calculus.Table → Text → Text → Option calculus.FieldEntry
own_field t class field = option_and_then (λ c. get c.fields field) (get t class)

abbrev pub own_method : calculus.Table → Text → Text → Option calculus.MethodEntry
own_method t class method = option_and_then (λ c. get c.methods method) (get t class)

-- the field of this name that the class has or inherits: its owner, and its number there
pub record IsFoundField (t : Table) (class field : Text) (found : Found) : Type 0 where
  pub known : found.owner.0 < length (table_names t)
  pub owner : ClassEntry
  pub is_owner : IsClassNamed t (name_text t found.owner.0) owner
  pub entry : FieldEntry
  pub stands : slice_get owner.fields.items found.place ≡ Some entry
  pub named : text_at (table_names t) entry.spot ≡ field
  pub nearest : NearestField (plain_table t) class field (name_text t found.owner.0) (plain_field (table_names t) entry)

pub record IsFoundMethod (t : Table) (class method : Text) (found : Found) : Type 0 where
  pub known : found.owner.0 < length (table_names t)
  pub owner : ClassEntry
  pub is_owner : IsClassNamed t (name_text t found.owner.0) owner
  pub entry : MethodEntry
  pub stands : slice_get owner.methods.items found.place ≡ Some entry
  pub named : text_at (table_names t) entry.spot ≡ method
  pub nearest : NearestMethod (plain_table t) class method (name_text t found.owner.0) (plain_method (table_names t) (table_nodes t) entry)

-- the class neither has nor inherits one
abbrev pub HasNoField : Table → Text → Text → Type 0
HasNoField t class field = (owner : Text) (entry : calculus.FieldEntry) → ¬ (NearestField (plain_table t) class field owner entry)

abbrev pub HasNoMethod : Table → Text → Text → Type 0
HasNoMethod t class method = (owner : Text) (entry : calculus.MethodEntry) → ¬ (NearestMethod (plain_table t) class method owner entry)
