-- Subclassing: lists of steps from class to superclass, which types are below which, and which fields and methods a class has.
use Rattle.std.specs.Prelude.{◌≡◌, ◌⊎◌, Option, Some, None, IsSome, codes}
use Rattle.std.specs.FinMap.{get}
use Rattle.dj_names.specs.Texts.{Text}
use Rattle.dj_calculus.specs.Tables.{FieldEntry, MethodEntry, ClassEntry, Table, Heading, heading_of}

abbrev pub object : Text
object = codes "Object"

-- a class exists if it is in the table or is `Object`
abbrev pub Exists : Table → Text → Type 0
Exists t c = (c ≡ object) ⊎ IsSome (get t c)

-- ---- steps

-- the class is in the table, with this superclass
pub record HasSuperclass (t : Table) (c d : Text) : Type 0 where
  pub entry : ClassEntry
  pub there : get t c ≡ Some entry
  pub parent : entry.parent.text ≡ d

-- a list of steps from the first class to the second, each to the superclass of the one before
pub data Steps (t : Table) : Text → Text → Type 0 where
  stay : {c : Text} → Steps t c c
  up : {c d e : Text} → HasSuperclass t c d → Steps t d e → Steps t c e

-- the second class is above the first: there is a list of one or more steps
abbrev pub Above : Table → Text → Text → Type 0
Above t c e = (d : Text) × HasSuperclass t c d × Steps t d e

-- ---- types

-- a type of an expression: that of `null`, or a class
pub data Kind : Type 0 where
  null_kind : Kind
  class_kind : Text → Kind

-- the first type is below the second
pub data Below (t : Table) : Kind → Kind → Type 0 where
  null_below : (b : Kind) → Below t null_kind b
  same : (a : Kind) → Below t a a
  below_object : (a : Kind) → Below t a (class_kind object)
  above : (c d : Text) → Above t c d → Below t (class_kind c) (class_kind d)

-- ---- members

-- the first class, from this one on up, that has such a member, and what it has
pub data Nearest {X : Type 0} (t : Table) (member : ClassEntry → Option X) : Text → Text → X → Type 0 where
  own : {c : Text} {entry : ClassEntry} {x : X} → get t c ≡ Some entry → member entry ≡ Some x → Nearest t member c c x
  inherited : {c d : Text} {entry : ClassEntry} {x : X} → get t c ≡ Some entry → member entry ≡ None
      → Nearest t member entry.parent.text d x → Nearest t member c d x

abbrev pub NearestField : Table → Text → Text → Text → FieldEntry → Type 0
NearestField t c f owner field = Nearest t (λ entry. get entry.fields f) c owner field

abbrev pub NearestMethod : Table → Text → Text → Text → MethodEntry → Type 0
NearestMethod t c m owner method = Nearest t (λ entry. get entry.methods m) c owner method

-- the field of a class is the nearest one, and has this type
pub record FieldOf (t : Table) (c f kind : Text) : Type 0 where
  pub owner : Text
  pub field : FieldEntry
  pub nearest : NearestField t c f owner field
  pub has : field.kind.text ≡ kind

-- the method of a class is the nearest one, and has this heading
pub record MethodOf (t : Table) (c m : Text) (heading : Heading) : Type 0 where
  pub owner : Text
  pub method : MethodEntry
  pub nearest : NearestMethod t c m owner method
  pub has : heading_of method.signature ≡ heading
