-- Methods of one name along a chain of superclasses, with one signature or with more.
use Rattle.std.specs.Prelude.{◌≡◌, ◌<◌, ℕ, slice_get, Some, IsFalse}
use Rattle.std.specs.FinMap.{get}
use Rattle.dj_names.specs.Texts.{Text}
use Rattle.dj_calculus.specs.Tables as calculus
use Rattle.dj_calculus.specs.Entries.{same_signature}
use Rattle.dj_calculus.specs.Subclasses.{Steps, NearestMethod}
use Rattle.ifj_table.specs.Tables.{plain_table, table_names}
use Rattle.ifj_table.specs.Entries.{text_at, plain_signature}
use Rattle.ifj_table.specs.declared.entry.ClassEntry.{ClassEntry}
use Rattle.ifj_table.specs.declared.entry.MethodEntry.{MethodEntry}
use Rattle.ifj_table.specs.declared.table.Table.{Table}

-- this class or one above it has the method with another signature
pub record Differs (t : calculus.Table) (class m : Text) (signature : calculus.Signature) : Type 0 where
  pub upper : Text
  pub entry : calculus.ClassEntry
  pub other : calculus.MethodEntry
  pub steps : Steps t class upper
  pub there : get t upper ≡ Some entry
  pub its : get entry.methods m ≡ Some other
  pub differs : IsFalse (same_signature signature other.signature)

-- the method of this name that a class has or inherits has another signature
pub record Turns (t : calculus.Table) (class m : Text) (signature : calculus.Signature) : Type 0 where
  pub owner : Text
  pub method : calculus.MethodEntry
  pub nearest : NearestMethod t class m owner method
  pub differs : IsFalse (same_signature signature method.signature)

-- the method of this name that a class has or inherits differs from one above it
pub record Clashes (t : calculus.Table) (class m : Text) : Type 0 where
  pub owner : Text
  pub method : calculus.MethodEntry
  pub nearest : NearestMethod t class m owner method
  pub differs : Differs t class m method.signature

-- among the first `count` methods of a class there is one with this number for a name, and the one that it overrides has another signature
pub record TurnsAmong (t : Table) (class : ClassEntry) (count key : ℕ) : Type 0 where
  pub place : ℕ
  pub before : place < count
  pub method : MethodEntry
  pub stands : slice_get class.methods.items place ≡ Some method
  pub named : method.spot.name.0 ≡ key
  pub turns : Turns (plain_table t) (text_at (table_names t) class.parent) (text_at (table_names t) method.spot) (plain_signature (table_names t) method)
