-- Which types expressions have in a table, and which tables are well typed.
use Rattle.std.specs.Prelude.{◌≡◌, ◌⊎◌, ℕ, List, [], ◌∷◌, Option, Some, None, IsTrue, Contains, if◌then◌else◌}
use Rattle.std.specs.Option.{option_or}
use Rattle.std.specs.Str.{bytes_eq}
use Rattle.std.specs.FinMap.{get}
use Rattle.dj_names.specs.Texts.{Text}
use Rattle.arena_walk.specs.Tree.{branch, Trees, no_trees, tree_and}
use Rattle.dj_tree.specs.Trees.{Spot, Expr, ExprForm, CallForm, OriginalForm, variable, this_at, null_at, field_of, new_of, cast_to, assignment}
use Rattle.dj_calculus.specs.Tables.{FieldEntry, Signature, Body, MethodEntry, ClassEntry, Table, texts_of, Heading, heading_of}
use Rattle.dj_calculus.specs.Entries.{same_signature}
use Rattle.dj_calculus.specs.Subclasses.{object, Exists, Steps, Above, Kind, null_kind, class_kind, Below, FieldOf, MethodOf}

-- where a body stands: in a class, in a method of this heading, with these names of its parameters
pub record Home : Type 0 where
  pub class : Text
  pub heading : Heading
  pub names : List Text

-- The type of the last of the names that is x. In accepted lines and Java files no parameter is repeated, so there is one at most.
abbrev pub last_named : List Text → List Text → Text → Option Text
last_named (name ∷ names) (kind ∷ kinds) x = option_or (last_named names kinds x) (if bytes_eq name x then Some kind else None)
last_named names kinds x = None

-- the type of a parameter
abbrev pub parameter_type : Home → Text → Option Text
parameter_type home x = last_named home.names home.heading.parameters x

abbrev pub Arguments : Type 0
Arguments = Trees ExprForm

-- e.m(arguments)
abbrev pub call_with : Expr → Spot → Arguments → Expr
call_with e m arguments = branch (CallForm m) (tree_and e arguments)

mutual
  -- the expression has this type
  pub data Types (t : Table) (home : Home) : Expr → Kind → Type 0 where
    type_of_variable : {x : Spot} {u : Text} → parameter_type home x.text ≡ Some u → Types t home (variable x) (class_kind u)
    type_of_this : {at : ℕ} → Types t home (this_at at) (class_kind home.class)
    type_of_null : {at : ℕ} → Types t home (null_at at) null_kind
    type_of_new : {d : Spot} → Exists t d.text → Types t home (new_of d) (class_kind d.text)
    type_of_cast : {d : Spot} {e : Expr} {a : Kind} → Exists t d.text → Types t home e a
        → (Below t a (class_kind d.text)) ⊎ (Below t (class_kind d.text) a) → Types t home (cast_to d e) (class_kind d.text)
    type_of_field : {e : Expr} {f : Spot} {a kind : Text} → Types t home e (class_kind a) → FieldOf t a f.text kind
        → Types t home (field_of e f) (class_kind kind)
    type_of_assignment : {e v : Expr} {f : Spot} {a kind : Text} {b : Kind} → Types t home e (class_kind a) → FieldOf t a f.text kind
        → Types t home v b → Below t b (class_kind kind) → Types t home (assignment e f v) (class_kind kind)
    type_of_call : {e : Expr} {m : Spot} {arguments : Arguments} {a : Text} {heading : Heading} → Types t home e (class_kind a)
        → MethodOf t a m.text heading → AllBelow t home arguments heading.parameters
        → Types t home (call_with e m arguments) (class_kind heading.result)
    type_of_original : {at : ℕ} {arguments : Arguments} → AllBelow t home arguments home.heading.parameters
        → Types t home (branch (OriginalForm at) arguments) (class_kind home.heading.result)

  -- there are as many arguments as parameters, and each has a type below that of its parameter
  pub data AllBelow (t : Table) (home : Home) : Arguments → List Text → Type 0 where
    none_below : AllBelow t home no_trees []
    and_below : {e : Expr} {a : Kind} {arguments : Arguments} {u : Text} {parameters : List Text} → Types t home e a → Below t a (class_kind u)
        → AllBelow t home arguments parameters → AllBelow t home (tree_and e arguments) (u ∷ parameters)

-- ---- well typed tables

-- the home of a body of a method
abbrev pub home_of : Text → MethodEntry → Body → Home
home_of c method body = record { class = c; heading = heading_of method.signature; names = texts_of body.names }

-- the expression is a body that a method of the table keeps, which stands there
pub data IsBody (t : Table) : Home → Expr → Type 0 where
  kept : {c : Text} (m : Text) {entry : ClassEntry} {method : MethodEntry} {body : Body} → get t c ≡ Some entry → get entry.methods m ≡ Some method
      → Contains method.bodies body → IsBody t (home_of c method body) body.value

-- the expression has a type below the result type of its method
pub record Returns (t : Table) (home : Home) (e : Expr) : Type 0 where
  pub kind : Kind
  pub types : Types t home e kind
  pub below : Below t kind (class_kind home.heading.result)

-- the types that a signature names
abbrev pub types_in : Signature → List Spot
types_in s = s.result ∷ s.parameters

pub record WellTyped (t : Table) : Type 0 where
  -- every superclass exists
  pub superclasses : (c : Text) (entry : ClassEntry) → get t c ≡ Some entry → Exists t entry.parent.text
  -- every class has a list of steps to `Object`
  pub rooted : (c : Text) (entry : ClassEntry) → get t c ≡ Some entry → Steps t c object
  -- every field type exists, and every type of a signature
  pub field_types : (c f : Text) (entry : ClassEntry) (field : FieldEntry) → get t c ≡ Some entry → get entry.fields f ≡ Some field
      → Exists t field.kind.text
  pub signatures : (c m : Text) (entry : ClassEntry) (method : MethodEntry) (kind : Spot) → get t c ≡ Some entry → get entry.methods m ≡ Some method
      → Contains (types_in method.signature) kind → Exists t kind.text
  -- no class has a field whose name a class above it has
  pub fields : (c d f : Text) (entry upper : ClassEntry) (field : FieldEntry) → get t c ≡ Some entry → get entry.fields f ≡ Some field
      → Above t c d → get t d ≡ Some upper → get upper.fields f ≡ None
  -- no class has a method that a class above it has with another signature
  pub methods : (c d m : Text) (entry upper : ClassEntry) (method other : MethodEntry) → get t c ≡ Some entry → get entry.methods m ≡ Some method
      → Above t c d → get t d ≡ Some upper → get upper.methods m ≡ Some other → IsTrue (same_signature method.signature other.signature)
  -- every body in every list has a type below its result type
  pub bodies : (home : Home) (e : Expr) → IsBody t home e → Returns t home e
