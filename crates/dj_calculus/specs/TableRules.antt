-- The rules on a table, 9 to 23: at which place each is broken, and which instances count for a table alone.
use Rattle.std.specs.Prelude.{◌≡◌, ℕ, Some, IsSome, IsFalse, Contains}
use Rattle.std.specs.FinMap.{get}
use Rattle.dj_names.specs.Texts.{Text}
use Rattle.dj_tree.specs.Trees.{Spot, Expr}
use Rattle.dj_tree.specs.declared.source.Instance.{Instance}
use Rattle.dj_calculus.specs.Tables.{FieldEntry, MethodEntry, ClassEntry, Table}
use Rattle.dj_calculus.specs.Entries.{same_signature}
use Rattle.dj_calculus.specs.Subclasses.{Exists, Steps, Above, Kind, class_kind, Below}
use Rattle.dj_calculus.specs.Typing.{Home, Types, IsBody, types_in}
use Rattle.dj_calculus.specs.BodyRules.{place_of, BreaksWithin}
use Rattle.dj_calculus.specs.Instances.{CountsAmong}

-- the class's chain of superclasses never ends: each class on it is in the table
abbrev pub IsEndless : Table → Text → Type 0
IsEndless t c = (d : Text) → Steps t c d → IsSome (get t d)

-- the table breaks the rule of this number, at this place
pub data TableRule (t : Table) : ℕ → ℕ → Type 0 where
  -- 9, unknown superclass: a class's superclass doesn't exist
  unknown_superclass : (c : Text) (entry : ClassEntry) → get t c ≡ Some entry → ¬ (Exists t entry.parent.text) → TableRule t 9 entry.parent.at
  -- 10, circular superclasses: a class's chain never ends
  circular_superclasses : (c : Text) (entry : ClassEntry) → get t c ≡ Some entry → IsEndless t c → TableRule t 10 entry.parent.at
  -- 11, unknown type: a field's type, or a type in the newest declaration of a method, doesn't exist
  unknown_field_type : (c f : Text) (entry : ClassEntry) (field : FieldEntry) → get t c ≡ Some entry → get entry.fields f ≡ Some field
      → ¬ (Exists t field.kind.text) → TableRule t 11 field.kind.at
  unknown_method_type : (c m : Text) (entry : ClassEntry) (method : MethodEntry) (kind : Spot) → get t c ≡ Some entry
      → get entry.methods m ≡ Some method → Contains (types_in method.signature) kind → ¬ (Exists t kind.text) → TableRule t 11 kind.at
  -- 12, hidden field: a class above has a field of the name
  hidden_field : (c d f : Text) (entry upper : ClassEntry) (field : FieldEntry) → get t c ≡ Some entry → get entry.fields f ≡ Some field
      → Above t c d → get t d ≡ Some upper → IsSome (get upper.fields f) → TableRule t 12 field.at
  -- 13, override differs: a class above has the method with another signature
  override_differs : (c d m : Text) (entry upper : ClassEntry) (method other : MethodEntry) → get t c ≡ Some entry
      → get entry.methods m ≡ Some method → Above t c d → get t d ≡ Some upper → get upper.methods m ≡ Some other
      → IsFalse (same_signature method.signature other.signature) → TableRule t 13 method.at
  -- 14 to 20, 22 and 23: a node of a body breaks it
  of_node : (home : Home) (body : Expr) (rule at : ℕ) → IsBody t home body → BreaksWithin t home body rule at → TableRule t rule at
  -- 21, returned type: a body's type isn't below the result type
  returned_type : (home : Home) (body : Expr) (kind : Kind) → IsBody t home body → Types t home body kind
      → ¬ (Below t kind (class_kind home.heading.result)) → TableRule t 21 (place_of body)

-- an instance has one place, but for rule 1
pub record StandsIn (t : Table) (i : Instance) : Type 0 where
  pub breaks : TableRule t i.rule i.at
  pub one_place : i.second ≡ i.at

-- for a table alone
abbrev pub CountsIn : Table → Instance → Type 0
CountsIn t i = CountsAmong (StandsIn t) i
