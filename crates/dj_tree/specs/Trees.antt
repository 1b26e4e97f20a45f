-- Syntax trees by their texts: each name with the place where it stands, as a byte offset.
use Rattle.std.specs.Prelude.{ℕ, List, [], ◌∷◌, Option}
use Rattle.dj_names.specs.Texts.{Text}
use Rattle.arena_walk.specs.Tree.{Tree, over}

-- a name where it is said
pub record Spot : Type 0 where
  pub text : Text
  pub at : ℕ

-- ---- formulas

-- what stands at the root of a formula, over its parts
pub data FormulaForm : Type 0 where
  TrueForm : FormulaForm
  FalseForm : FormulaForm
  FeatureForm : Spot → FormulaForm
  NotForm : FormulaForm
  AndForm : FormulaForm
  OrForm : FormulaForm
  ImpliesForm : FormulaForm
  SameForm : FormulaForm

abbrev pub Formula : Type 0
Formula = Tree FormulaForm

-- true, false, a feature
abbrev pub always : Formula
always = over TrueForm []

abbrev pub never : Formula
never = over FalseForm []

abbrev pub feature : Spot → Formula
feature x = over (FeatureForm x) []

-- ! a
abbrev pub negation : Formula → Formula
negation a = over NotForm (a ∷ [])

-- a & b
abbrev pub conjunction : Formula → Formula → Formula
conjunction a b = over AndForm (a ∷ b ∷ [])

-- a | b
abbrev pub disjunction : Formula → Formula → Formula
disjunction a b = over OrForm (a ∷ b ∷ [])

-- a -> b
abbrev pub implication : Formula → Formula → Formula
implication a b = over ImpliesForm (a ∷ b ∷ [])

-- a <-> b
abbrev pub equivalence : Formula → Formula → Formula
equivalence a b = over SameForm (a ∷ b ∷ [])

-- ---- expressions

-- what stands at the root of an expression, over its parts. A number is the place of a keyword.
pub data ExprForm : Type 0 where
  VariableForm : Spot → ExprForm
  ThisForm : ℕ → ExprForm
  NullForm : ℕ → ExprForm
  FieldForm : Spot → ExprForm
  CallForm : Spot → ExprForm
  NewForm : Spot → ExprForm
  CastForm : Spot → ExprForm
  AssignForm : Spot → ExprForm
  OriginalForm : ℕ → ExprForm

abbrev pub Expr : Type 0
Expr = Tree ExprForm

-- x
abbrev pub variable : Spot → Expr
variable x = over (VariableForm x) []

-- this
abbrev pub this_at : ℕ → Expr
this_at at = over (ThisForm at) []

-- null
abbrev pub null_at : ℕ → Expr
null_at at = over (NullForm at) []

-- e.f
abbrev pub field_of : Expr → Spot → Expr
field_of e f = over (FieldForm f) (e ∷ [])

-- e.m(arguments)
abbrev pub call_of : Expr → Spot → List Expr → Expr
call_of e m arguments = over (CallForm m) (e ∷ arguments)

-- new C()
abbrev pub new_of : Spot → Expr
new_of class = over (NewForm class) []

-- (C) e
abbrev pub cast_to : Spot → Expr → Expr
cast_to class e = over (CastForm class) (e ∷ [])

-- e.f = v
abbrev pub assignment : Expr → Spot → Expr → Expr
assignment e f v = over (AssignForm f) (e ∷ v ∷ [])

-- original(arguments)
abbrev pub original_at : ℕ → List Expr → Expr
original_at at arguments = over (OriginalForm at) arguments

-- ---- declarations

-- a field or a parameter, with its type
pub record Field : Type 0 where
  pub kind : Spot
  pub name : Spot

pub record Method : Type 0 where
  pub kind : Spot
  pub name : Spot
  pub parameters : List Field
  pub body : Expr

-- A class whose parent is omitted has the parent Object.
pub record Class : Type 0 where
  pub name : Spot
  pub parent : Option Spot
  pub fields : List Field
  pub methods : List Method

-- ---- product lines

-- an operation on a member of a class
pub data MemberOperation : Type 0 where
  adds_field : Field → MemberOperation
  adds_method : Method → MemberOperation
  modifies_method : Method → MemberOperation
  removes_field : Spot → MemberOperation
  removes_method : Spot → MemberOperation

-- a change of a class: a new parent where one is given, and then its members
pub record Change : Type 0 where
  pub name : Spot
  pub parent : Option Spot
  pub members : List MemberOperation

-- an operation on a class
pub data Operation : Type 0 where
  adds_class : Class → Operation
  modifies_class : Change → Operation
  removes_class : Spot → Operation

pub record Delta : Type 0 where
  pub name : Spot
  pub operations : List Operation

-- a delta in a part, with its condition. No condition is true.
pub record Item : Type 0 where
  pub delta : Spot
  pub condition : Option Formula

-- a part, and the part that it follows
pub record Part : Type 0 where
  pub name : Spot
  pub after : Option Spot
  pub items : List Item

-- a product line: its formula of valid configurations, its parts and its deltas
pub record Source : Type 0 where
  pub title : Spot
  pub features : List Spot
  pub valid : Formula
  pub parts : List Part
  pub deltas : List Delta
