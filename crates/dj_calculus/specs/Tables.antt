-- Class tables: finite maps from the names of classes to what they are. The places of names stand in the entries beside their texts.
use Rattle.std.specs.Prelude.{◌≡◌, ℕ, List, map}
use Rattle.std.specs.FinMap.{empty}
use Rattle.dj_names.specs.Texts.{Text}
use Rattle.arena_walk.specs.Tree.{over, fold_tree}
use Rattle.dj_tree.specs.Trees.{Spot, Expr, ExprForm, VariableForm, ThisForm, NullForm, FieldForm, CallForm, NewForm, CastForm, AssignForm, OriginalForm}
use Rattle.dj_calculus.specs.Maps.{TextMap, map_values}

-- a field: the place of its name, and its type
pub record FieldEntry : Type 0 where
  pub at : ℕ
  pub kind : Spot

-- the types of a method's parameters and of its result
pub record Signature : Type 0 where
  pub parameters : List Spot
  pub result : Spot

-- a body of a method: the names of its parameters, and its expression
pub record Body : Type 0 where
  pub names : List Spot
  pub value : Expr

-- a method: the place of its name, its signature, and its bodies, oldest first
pub record MethodEntry : Type 0 where
  pub at : ℕ
  pub signature : Signature
  pub bodies : List Body

-- a class: the place of its name, its superclass, its fields and its methods
pub record ClassEntry : Type 0 where
  pub at : ℕ
  pub parent : Spot
  pub fields : TextMap FieldEntry
  pub methods : TextMap MethodEntry

abbrev pub Table : Type 0
Table = TextMap ClassEntry

abbrev pub empty_table : Table
empty_table = empty

-- ---- without places

abbrev pub texts_of : List Spot → List Text
texts_of spots = map (λ x. x.text) spots

-- a signature as texts: the types of the parameters and of the result
pub record Heading : Type 0 where
  pub parameters : List Text
  pub result : Text

abbrev pub heading_of : Signature → Heading
heading_of s = record { parameters = texts_of s.parameters; result = s.result.text }

-- Each place is 0.
abbrev pub unplaced : Spot → Spot
unplaced x = record { text = x.text; at = 0 }

abbrev pub unplaced_form : ExprForm → ExprForm
unplaced_form (VariableForm x) = VariableForm (unplaced x)
unplaced_form (ThisForm at) = ThisForm 0
unplaced_form (NullForm at) = NullForm 0
unplaced_form (FieldForm f) = FieldForm (unplaced f)
unplaced_form (CallForm m) = CallForm (unplaced m)
unplaced_form (NewForm c) = NewForm (unplaced c)
unplaced_form (CastForm c) = CastForm (unplaced c)
unplaced_form (AssignForm f) = AssignForm (unplaced f)
unplaced_form (OriginalForm at) = OriginalForm 0

abbrev pub unplaced_expr : Expr → Expr
unplaced_expr e = fold_tree (λ form parts. over (unplaced_form form) parts) e

abbrev pub unplaced_field : FieldEntry → FieldEntry
unplaced_field f = record { at = 0; kind = unplaced f.kind }

abbrev pub unplaced_signature : Signature → Signature
unplaced_signature s = record { parameters = map unplaced s.parameters; result = unplaced s.result }

abbrev pub unplaced_body : Body → Body
unplaced_body b = record { names = map unplaced b.names; value = unplaced_expr b.value }

abbrev pub unplaced_method : MethodEntry → MethodEntry
unplaced_method m = record { at = 0; signature = unplaced_signature m.signature; bodies = map unplaced_body m.bodies }

abbrev pub unplaced_class : ClassEntry → ClassEntry
unplaced_class c =
    record { at = 0; parent = unplaced c.parent; fields = map_values unplaced_field c.fields; methods = map_values unplaced_method c.methods }

abbrev pub unplaced_table : Table → Table
unplaced_table t = map_values unplaced_class t

-- the two are the same but for places
abbrev pub SameTable : Table → Table → Type 0
SameTable t u = unplaced_table t ≡ unplaced_table u
