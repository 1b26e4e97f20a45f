-- The rules on bodies, 14 to 23: at which place each is broken by a node of a body, given what its parts have for types.
use Rattle.std.specs.Prelude.{◌≡◌, ◌≢◌, ℕ, List, length, slice_get, Some, None, Contains}
use Rattle.std.specs.List.{All}
use Rattle.dj_names.specs.Texts.{Text}
use Rattle.arena_walk.specs.Tree.{branch, list_of, root_of, children_of}
use Rattle.dj_tree.specs.Trees.{Spot, Expr, ExprForm, VariableForm, ThisForm, NullForm, FieldForm, CallForm, NewForm, CastForm, AssignForm, OriginalForm}
use Rattle.dj_tree.specs.Trees.{variable, field_of, new_of, cast_to, assignment}
use Rattle.dj_calculus.specs.Tables.{Table, Heading}
use Rattle.dj_calculus.specs.Subclasses.{Exists, Kind, null_kind, class_kind, Below, FieldOf, MethodOf}
use Rattle.dj_calculus.specs.Typing.{Home, parameter_type, Arguments, call_with, Types}

-- the place of an expression: that of its own token, the member name or the class name
abbrev pub place_of_form : ExprForm → ℕ
place_of_form (VariableForm x) = x.at
place_of_form (ThisForm at) = at
place_of_form (NullForm at) = at
place_of_form (FieldForm f) = f.at
place_of_form (CallForm m) = m.at
place_of_form (NewForm d) = d.at
place_of_form (CastForm d) = d.at
place_of_form (AssignForm f) = f.at
place_of_form (OriginalForm at) = at

abbrev pub place_of : Expr → ℕ
place_of e = place_of_form (root_of e)

-- the expression is the other or stands somewhere in it
pub data IsWithin (e : Expr) : Expr → Type 0 where
  itself : IsWithin e e
  deeper : {part whole : Expr} → IsWithin e part → Contains (children_of whole) part → IsWithin e whole

abbrev pub HasType : Table → Home → Expr → Type 0
HasType t home e = (a : Kind) × Types t home e a

abbrev pub HaveTypes : Table → Home → Arguments → Type 0
HaveTypes t home arguments = All (HasType t home) (list_of arguments)

abbrev pub HasField : Table → Text → Text → Type 0
HasField t c f = (kind : Text) × FieldOf t c f kind

abbrev pub HasMethod : Table → Text → Text → Type 0
HasMethod t c m = (heading : Heading) × MethodOf t c m heading

-- All arguments have types, and they are as many as the parameters. This one has a type that isn't below that of its parameter.
pub record WrongArgument (t : Table) (home : Home) (arguments : Arguments) (parameters : List Text) (e : Expr) : Type 0 where
  pub typed : HaveTypes t home arguments
  pub count : length (list_of arguments) ≡ length parameters
  pub number : ℕ
  pub argument : slice_get (list_of arguments) number ≡ Some e
  pub parameter : Text
  pub its : slice_get parameters number ≡ Some parameter
  pub kind : Kind
  pub types : Types t home e kind
  pub wrong : ¬ (Below t kind (class_kind parameter))

-- All arguments have types, but they are not as many as the parameters.
pub record WrongNumber (t : Table) (home : Home) (arguments : Arguments) (parameters : List Text) : Type 0 where
  pub typed : HaveTypes t home arguments
  pub count : length (list_of arguments) ≢ length parameters

-- the node breaks the rule of this number, at this place
pub data NodeRule (t : Table) (home : Home) : Expr → ℕ → ℕ → Type 0 where
  -- 14, unknown variable: x isn't a parameter
  unknown_variable : {x : Spot} → parameter_type home x.text ≡ None → NodeRule t home (variable x) 14 x.at
  -- 15, unknown class: D of `new D()`, or of `(D) e`, doesn't exist
  unknown_class_new : {d : Spot} → ¬ (Exists t d.text) → NodeRule t home (new_of d) 15 d.at
  unknown_class_cast : {d : Spot} {e : Expr} → HasType t home e → ¬ (Exists t d.text) → NodeRule t home (cast_to d e) 15 d.at
  -- 16, no field: e's class has no field f
  no_field : {e : Expr} {f : Spot} (a : Text) → Types t home e (class_kind a) → ¬ (HasField t a f.text) → NodeRule t home (field_of e f) 16 f.at
  no_field_assigned : {e v : Expr} {f : Spot} (a : Text) → Types t home e (class_kind a) → HasType t home v → ¬ (HasField t a f.text)
      → NodeRule t home (assignment e f v) 16 f.at
  -- 17, no method: e's class has no method m
  no_method : {e : Expr} {m : Spot} {arguments : Arguments} (a : Text) → Types t home e (class_kind a) → HaveTypes t home arguments
      → ¬ (HasMethod t a m.text) → NodeRule t home (call_with e m arguments) 17 m.at
  -- 18, number of arguments: it differs from the signature's
  number_of_call : {e : Expr} {m : Spot} {arguments : Arguments} (a : Text) (heading : Heading) → Types t home e (class_kind a)
      → MethodOf t a m.text heading → WrongNumber t home arguments heading.parameters → NodeRule t home (call_with e m arguments) 18 m.at
  number_of_original : {at : ℕ} {arguments : Arguments} → WrongNumber t home arguments home.heading.parameters
      → NodeRule t home (branch (OriginalForm at) arguments) 18 at
  -- 19, argument type: an argument's type isn't below its parameter's
  argument_of_call : {e : Expr} {m : Spot} {arguments : Arguments} (a : Text) (heading : Heading) (v : Expr) → Types t home e (class_kind a)
      → MethodOf t a m.text heading → WrongArgument t home arguments heading.parameters v
      → NodeRule t home (call_with e m arguments) 19 (place_of v)
  argument_of_original : {at : ℕ} {arguments : Arguments} (v : Expr) → WrongArgument t home arguments home.heading.parameters v
      → NodeRule t home (branch (OriginalForm at) arguments) 19 (place_of v)
  -- 20, assigned type: v's type isn't below the field's
  assigned_type : {e v : Expr} {f : Spot} (a kind : Text) (b : Kind) → Types t home e (class_kind a) → FieldOf t a f.text kind
      → Types t home v b → ¬ (Below t b (class_kind kind)) → NodeRule t home (assignment e f v) 20 f.at
  -- 22, unrelated cast: D exists, and neither e's type is below D nor D below it
  unrelated_cast : {d : Spot} {e : Expr} (a : Kind) → Types t home e a → Exists t d.text → ¬ (Below t a (class_kind d.text))
      → ¬ (Below t (class_kind d.text) a) → NodeRule t home (cast_to d e) 22 d.at
  -- 23, member of null: e of `e.f`, `e.m(..)` or `e.f = v` has the null type
  field_of_null : {e : Expr} {f : Spot} → Types t home e null_kind → NodeRule t home (field_of e f) 23 f.at
  method_of_null : {e : Expr} {m : Spot} {arguments : Arguments} → Types t home e null_kind → HaveTypes t home arguments
      → NodeRule t home (call_with e m arguments) 23 m.at
  assignment_of_null : {e v : Expr} {f : Spot} → Types t home e null_kind → HasType t home v → NodeRule t home (assignment e f v) 23 f.at

-- some node within the expression breaks the rule of this number, at this place
pub record BreaksWithin (t : Table) (home : Home) (e : Expr) (rule at : ℕ) : Type 0 where
  pub node : Expr
  pub within : IsWithin node e
  pub breaks : NodeRule t home node rule at
