-- A value of the code is well formed: each name and each node that it speaks of by number is there.
use Rattle.std.specs.Prelude.{◌<◌, List, length, All, IfSome}
use Rattle.dj_names.specs.Texts.{Text}
use Rattle.dj_tree.specs.declared.declarations.Spot.{Spot}
use Rattle.dj_tree.specs.declared.declarations.FieldDecl.{FieldDecl}
use Rattle.dj_tree.specs.declared.declarations.Method.{Method}
use Rattle.dj_tree.specs.declared.declarations.ClassDecl.{ClassDecl}
use Rattle.dj_tree.specs.declared.declarations.MemberOp.{MemberOp}
use Rattle.dj_tree.specs.declared.declarations.MemberOp.TheVariants.{AddsField, AddsMethod, ModifiesMethod, RemovesField, RemovesMethod}
use Rattle.dj_tree.specs.declared.declarations.ClassChange.{ClassChange}
use Rattle.dj_tree.specs.declared.declarations.ClassOp.{ClassOp}
use Rattle.dj_tree.specs.declared.declarations.ClassOp.TheVariants.{Adds, Modifies, Removes}
use Rattle.dj_tree.specs.declared.declarations.DeltaDecl.{DeltaDecl}
use Rattle.dj_tree.specs.declared.declarations.Item.{Item}
use Rattle.dj_tree.specs.declared.declarations.PartDecl.{PartDecl}
use Rattle.dj_tree.specs.declared.source.Source.{Source}
use Rattle.dj_tree.specs.declared.source.JavaSource.{JavaSource}
use Rattle.dj_tree.specs.declared.formula.FormulaNode.{FormulaNode}
use Rattle.dj_tree.specs.declared.formula.FormulaNode.TheVariants.{True, False, Feature, Not, And, Or, Implies, Same}
use Rattle.dj_tree.specs.declared.expression.ExprNode.{ExprNode}
use Rattle.dj_tree.specs.declared.expression.ExprNode.TheVariants.{Variable, This, Null, Field, Call, New, Cast, Assign, Original}

-- the name is in the table of names
abbrev pub IsKnown : List Text → Spot → Type 0
IsKnown names spot = spot.name.0 < length names

abbrev pub IsFormulaNode : List Text → FormulaNode → Type 0
IsFormulaNode names (Feature x) = IsKnown names x
IsFormulaNode names True = Unit {0}
IsFormulaNode names False = Unit {0}
IsFormulaNode names Not = Unit {0}
IsFormulaNode names And = Unit {0}
IsFormulaNode names Or = Unit {0}
IsFormulaNode names Implies = Unit {0}
IsFormulaNode names Same = Unit {0}

abbrev pub IsExprNode : List Text → ExprNode → Type 0
IsExprNode names (Variable x) = IsKnown names x
IsExprNode names (This at) = Unit {0}
IsExprNode names (Null at) = Unit {0}
IsExprNode names (Field f) = IsKnown names f
IsExprNode names (Call m arguments) = IsKnown names m
IsExprNode names (New c) = IsKnown names c
IsExprNode names (Cast c) = IsKnown names c
IsExprNode names (Assign f) = IsKnown names f
IsExprNode names (Original at arguments) = Unit {0}

abbrev pub IsField : List Text → FieldDecl → Type 0
IsField names f = IsKnown names f.kind × IsKnown names f.spot

pub record IsMethod (names : List Text) (exprs : List ExprNode) (m : Method) : Type 0 where
  pub result : IsKnown names m.result
  pub spot : IsKnown names m.spot
  pub parameters : All (IsField names) m.parameters
  pub body : m.body.0 < length exprs

pub record IsClass (names : List Text) (exprs : List ExprNode) (c : ClassDecl) : Type 0 where
  pub spot : IsKnown names c.spot
  pub parent : IfSome c.parent (IsKnown names)
  pub fields : All (IsField names) c.fields
  pub methods : All (IsMethod names exprs) c.methods

abbrev pub IsMember : List Text → List ExprNode → MemberOp → Type 0
IsMember names exprs (AddsField f) = IsField names f
IsMember names exprs (AddsMethod m) = IsMethod names exprs m
IsMember names exprs (ModifiesMethod m) = IsMethod names exprs m
IsMember names exprs (RemovesField f) = IsKnown names f
IsMember names exprs (RemovesMethod m) = IsKnown names m

pub record IsChange (names : List Text) (exprs : List ExprNode) (c : ClassChange) : Type 0 where
  pub spot : IsKnown names c.spot
  pub parent : IfSome c.parent (IsKnown names)
  pub members : All (IsMember names exprs) c.members

abbrev pub IsOperation : List Text → List ExprNode → ClassOp → Type 0
IsOperation names exprs (Adds c) = IsClass names exprs c
IsOperation names exprs (Modifies c) = IsChange names exprs c
IsOperation names exprs (Removes c) = IsKnown names c

pub record IsDelta (names : List Text) (exprs : List ExprNode) (d : DeltaDecl) : Type 0 where
  pub spot : IsKnown names d.spot
  pub ops : All (IsOperation names exprs) d.ops

pub record IsItem (names : List Text) (formulas : List FormulaNode) (i : Item) : Type 0 where
  pub delta : IsKnown names i.delta
  pub when : IfSome i.when (λ root. root.0 < length formulas)

pub record IsPart (names : List Text) (formulas : List FormulaNode) (p : PartDecl) : Type 0 where
  pub spot : IsKnown names p.spot
  pub after : IfSome p.after (IsKnown names)
  pub items : All (IsItem names formulas) p.items

-- That each node has a finished tree of as many parts as its arity is promised by the arena (`Arena::get`), and isn't said again here.
pub record IsWellFormed (s : Source) : Type 0 where
  pub title : IsKnown s.names s.title
  pub features : All (IsKnown s.names) s.features
  pub valid : s.valid.0 < length s.formulas
  pub parts : All (IsPart s.names s.formulas) s.parts
  pub deltas : All (IsDelta s.names s.exprs) s.deltas
  pub formula_nodes : All (IsFormulaNode s.names) s.formulas
  pub expr_nodes : All (IsExprNode s.names) s.exprs

pub record IsWellFormedJava (s : JavaSource) : Type 0 where
  pub classes : All (IsClass s.names s.exprs) s.classes
  pub expr_nodes : All (IsExprNode s.names) s.exprs
