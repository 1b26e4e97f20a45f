-- What the members that a search found say of types, and tests that failed.
use Rattle.std.proofs.Common.{◌≡◌, Bool, false, sym, ap, ◌∙◌}
use Rattle.std.specs.Prelude.{Decides}
use Rattle.std.proofs.lemmas.Bool.{false≢true}
use Rattle.dj_names.specs.Texts.{Text}
use Rattle.dj_calculus.specs.Tables.{heading_of}
use Rattle.dj_calculus.specs.Subclasses.{FieldOf, MethodOf}
use Rattle.dj_calculus.specs.BodyRules.{HasField, HasMethod}
use Rattle.ifj_table.specs.Entries.{text_at, plain_field, plain_method, plain_signature}
use Rattle.ifj_table.specs.Tables.{plain_table}
use Rattle.ifj_table.specs.Lookups.{IsFoundField, IsFoundMethod, HasNoField, HasNoMethod}
use Rattle.ifj_table.specs.declared.entry.FieldEntry.{FieldEntry}
use Rattle.ifj_table.specs.declared.entry.MethodEntry.{MethodEntry}
use Rattle.ifj_table.specs.declared.lookups.Found.{Found}
use Rattle.ifj_table.specs.declared.table.Table.{Table}

-- what a test that failed denies
pub denied : (b : Bool) {P : Type 0} → Decides b P → b ≡ false → ¬ P
denied b decides is p = false≢true (sym is ∙ decides.1 p)

module _ (t : Table) where
  pub its_field_type : (class name : Text) (found : Found) (is : IsFoundField t class name found) (entry : FieldEntry) → is.entry ≡ entry
      → FieldOf (plain_table t) class name (text_at t.names entry.kind)
  its_field_type class name found is entry same =
      record { owner = _; field = plain_field t.names is.entry; nearest = is.nearest; has = ap (λ (f : FieldEntry). text_at t.names f.kind) same }

  pub its_heading : (class name : Text) (found : Found) (is : IsFoundMethod t class name found) (entry : MethodEntry) → is.entry ≡ entry
      → MethodOf (plain_table t) class name (heading_of (plain_signature t.names entry))
  its_heading class name found is entry same =
      record { owner = _; method = plain_method t.names t.exprs is.entry; nearest = is.nearest; has = ap (λ (m : MethodEntry). heading_of (plain_signature t.names m)) same }

  pub no_field_type : (class name : Text) → HasNoField t class name → ¬ (HasField (plain_table t) class name)
  no_field_type class name none has = none has.1.owner has.1.field has.1.nearest

  pub no_heading : (class name : Text) → HasNoMethod t class name → ¬ (HasMethod (plain_table t) class name)
  no_heading class name none has = none has.1.owner has.1.method has.1.nearest
