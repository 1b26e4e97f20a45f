-- The rules of layers 3 and 4, in the entries of a table: superclasses and types, hidden fields and overrides.
use Rattle.std.specs.Prelude.{◌≡◌, ◌⊎◌, ℕ, List, length}
use Rattle.dj_tree.specs.declared.declarations.Spot.{Spot}
use Rattle.dj_tree.specs.declared.source.Instance.{Instance}
use Rattle.dj_calculus.specs.Subclasses.{Exists}
use Rattle.dj_calculus.specs.BodyRules.{HasField}
use Rattle.dj_calculus.specs.TableRules.{IsEndless}
use Rattle.ifj_table.specs.Tables.{plain_table, table_names, table_classes}
use Rattle.ifj_table.specs.Entries.{text_at, plain_signature}
use Rattle.ifj_table.specs.declared.entry.FieldEntry.{FieldEntry}
use Rattle.ifj_table.specs.declared.entry.MethodEntry.{MethodEntry}
use Rattle.ifj_table.specs.declared.entry.ClassEntry.{ClassEntry}
use Rattle.ifj_table.specs.declared.table.Table.{Table}
use Rattle.ifj_lineages.specs.Overrides.{Differs}
use Rattle.ifj_typing.specs.Least.{Before, OfElement}

-- the instance of this rule at this place, where P holds
pub record Stated (rule at : ℕ) (P : Type 0) (i : Instance) : Type 0 where
  pub rule_is : i.rule ≡ rule
  pub place_is : i.at ≡ at
  pub one_place : i.second ≡ i.at
  pub holds : P

-- ---- layer 3

abbrev pub UnknownSuperclass : Table → ClassEntry → Instance → Type 0
UnknownSuperclass t class = Stated 9 class.parent.at (¬ (Exists (plain_table t) (text_at (table_names t) class.parent)))

abbrev pub CircularSuperclasses : Table → ClassEntry → Instance → Type 0
CircularSuperclasses t class = Stated 10 class.parent.at (IsEndless (plain_table t) (text_at (table_names t) class.spot))

abbrev pub UnknownType : Table → Spot → Instance → Type 0
UnknownType t kind = Stated 11 kind.at (¬ (Exists (plain_table t) (text_at (table_names t) kind)))

abbrev pub UnknownAmong : Table → List Spot → Instance → Type 0
UnknownAmong t kinds = Before (OfElement (UnknownType t) kinds) (length kinds)

abbrev pub UnknownFieldType : Table → FieldEntry → Instance → Type 0
UnknownFieldType t field = UnknownType t field.kind

abbrev pub UnknownInSignature : Table → MethodEntry → Instance → Type 0
UnknownInSignature t method i = UnknownType t method.result i ⊎ UnknownAmong t method.parameters i

abbrev pub UnknownFieldTypes : Table → ClassEntry → Instance → Type 0
UnknownFieldTypes t class = Before (OfElement (UnknownFieldType t) class.fields.items) (length class.fields.items)

abbrev pub UnknownInSignatures : Table → ClassEntry → Instance → Type 0
UnknownInSignatures t class = Before (OfElement (UnknownInSignature t) class.methods.items) (length class.methods.items)

abbrev pub BreaksChain : Table → ClassEntry → Instance → Type 0
BreaksChain t class i = UnknownSuperclass t class i ⊎ CircularSuperclasses t class i

abbrev pub BreaksTypes : Table → ClassEntry → Instance → Type 0
BreaksTypes t class i = UnknownFieldTypes t class i ⊎ UnknownInSignatures t class i

abbrev pub BreaksDeclaration : Table → ClassEntry → Instance → Type 0
BreaksDeclaration t class i = BreaksChain t class i ⊎ BreaksTypes t class i

abbrev pub BreaksDeclarations : Table → Instance → Type 0
BreaksDeclarations t = Before (OfElement (BreaksDeclaration t) (table_classes t)) (length (table_classes t))

-- ---- layer 4

abbrev pub HiddenField : Table → ClassEntry → FieldEntry → Instance → Type 0
HiddenField t class field = Stated 12 field.spot.at (HasField (plain_table t) (text_at (table_names t) class.parent) (text_at (table_names t) field.spot))

abbrev pub OverrideDiffers : Table → ClassEntry → MethodEntry → Instance → Type 0
OverrideDiffers t class method =
    Stated 13 method.spot.at (Differs (plain_table t) (text_at (table_names t) class.parent) (text_at (table_names t) method.spot) (plain_signature (table_names t) method))

abbrev pub HiddenFields : Table → ClassEntry → Instance → Type 0
HiddenFields t class = Before (OfElement (HiddenField t class) class.fields.items) (length class.fields.items)

abbrev pub OverridesDiffer : Table → ClassEntry → Instance → Type 0
OverridesDiffer t class = Before (OfElement (OverrideDiffers t class) class.methods.items) (length class.methods.items)

abbrev pub BreaksMembers : Table → ClassEntry → Instance → Type 0
BreaksMembers t class i = HiddenFields t class i ⊎ OverridesDiffer t class i

abbrev pub BreaksInheritance : Table → Instance → Type 0
BreaksInheritance t = Before (OfElement (BreaksMembers t) (table_classes t)) (length (table_classes t))
