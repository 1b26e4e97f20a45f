-- Methods that are made, and the members of a class while they are put into it.
use Rattle.std.specs.Prelude.{◌≡◌, ℕ, List, [], ◌∷◌, ◌++◌, map, slice_get, Some, Contains}
use Rattle.std.specs.FinMap.{get, from_entries}
use Rattle.dj_names.specs.Texts.{Text}
use Rattle.dj_tree.specs.Trees.{Method}
use Rattle.dj_tree.specs.Plain.{plain_spot, plain_expr}
use Rattle.dj_tree.specs.declared.expression.ExprNode.{ExprNode}
use Rattle.dj_calculus.specs.Maps.{TextMap}
use Rattle.dj_calculus.specs.Tables.{FieldEntry, Body, MethodEntry, ClassEntry, Table}
use Rattle.dj_calculus.specs.Entries.{method_entry, signature_of, body_of}
use Rattle.dj_calculus.specs.FlatTables.{version, calling}
use Rattle.ifj_table.specs.Entries.{plain_signature}
use Rattle.ifj_table.specs.Changes.{changed_at}
use Rattle.ifj_table.specs.declared.entry.MethodEntry.{MethodEntry as Kept}
use Rattle.ifj_table.specs.declared.entry.Body.{Body as KeptBody}

-- ---- made methods

-- the made method is the body of this number under the heading of its method, with this name, where `original(..)` calls the other
pub record IsMadeFrom (names : List Text) (exprs : List ExprNode) (method : Kept) (number : ℕ) (name called : Text) (made : Method) : Type 0 where
  pub body : KeptBody
  pub stands : slice_get method.bodies.items number ≡ Some body
  pub named : made.name ≡ record { text = name; at = method.spot.at }
  pub signature : signature_of made ≡ plain_signature names method
  pub body_is : body_of made ≡ record { names = map (plain_spot names) body.parameters; value = calling called (plain_expr names exprs body.root.0) }

-- the made method is the version of this number
pub record IsVersion (c m : Text) (method : MethodEntry) (number : ℕ) (made : Method) : Type 0 where
  pub body : Body
  pub stands : slice_get method.bodies number ≡ Some body
  pub is : version c m method (number, body) ≡ (made.name.text, method_entry made)

-- ---- members of a class

-- the class with these fields, or these methods, in place of its own
abbrev pub with_fields : TextMap FieldEntry → ClassEntry → ClassEntry
with_fields fields c = record c { fields = fields }

abbrev pub with_methods : TextMap MethodEntry → ClassEntry → ClassEntry
with_methods methods c = record c { methods = methods }

-- no text stands twice
abbrev pub AreApart : List Text → Type 0
AreApart [] = Unit {0}
AreApart (x ∷ xs) = (¬ Contains xs x) × AreApart xs

abbrev pub names_of : {X : Type 0} → List (Text × X) → List Text
names_of entries = map (λ e. e.0) entries

-- in place of its own methods the class of this name has those that are made so far
pub record HasMade (before : Table) (class : Text) (done : List (Text × MethodEntry)) (now : Table) : Type 0 where
  pub entry : ClassEntry
  pub there : get before class ≡ Some entry
  pub is : now ≡ changed_at before class (with_methods (from_entries done))

-- these methods, whose names are new, may follow
pub record MayFollow (more : List (Text × MethodEntry)) (class : Text) (now : Table) : Type 0 where
  pub before : Table
  pub done : List (Text × MethodEntry)
  pub made : HasMade before class done now
  pub apart : AreApart (names_of (done ++ more))
