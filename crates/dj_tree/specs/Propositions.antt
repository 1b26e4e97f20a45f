-- That a value of the code is well formed has one proof at most.
use Rattle.std.proofs.Props.{props}
use Rattle.std.specs.Prelude.{ℕ, List}
use Rattle.dj_names.specs.Texts.{Text}
use Rattle.dj_tree.specs.WellFormed.{IsFormulaNode, IsExprNode, IsMember, IsOperation, IsWellFormed}
use Rattle.dj_tree.specs.declared.source.Source.{Source}
use Rattle.dj_tree.specs.declared.formula.FormulaNode.{FormulaNode}
use Rattle.dj_tree.specs.declared.formula.FormulaNode.TheVariants.{True, False, Feature, Not, And, Or, Implies, Same}
use Rattle.dj_tree.specs.declared.expression.ExprNode.{ExprNode}
use Rattle.dj_tree.specs.declared.expression.ExprNode.TheVariants.{Variable, This, Null, Field, Call, New, Cast, Assign, Original}
use Rattle.dj_tree.specs.declared.declarations.MemberOp.{MemberOp}
use Rattle.dj_tree.specs.declared.declarations.MemberOp.TheVariants.{AddsField, AddsMethod, ModifiesMethod, RemovesField, RemovesMethod}
use Rattle.dj_tree.specs.declared.declarations.ClassOp.{ClassOp}
use Rattle.dj_tree.specs.declared.declarations.ClassOp.TheVariants.{Adds, Modifies, Removes}

IsFormulaNode-prop : (names : List Text) (node : FormulaNode) → IsProp (IsFormulaNode names node)
IsFormulaNode-prop names (Feature x) = hlevel props
IsFormulaNode-prop names True = hlevel props
IsFormulaNode-prop names False = hlevel props
IsFormulaNode-prop names Not = hlevel props
IsFormulaNode-prop names And = hlevel props
IsFormulaNode-prop names Or = hlevel props
IsFormulaNode-prop names Implies = hlevel props
IsFormulaNode-prop names Same = hlevel props

pub IsExprNode-prop : (names : List Text) (node : ExprNode) → IsProp (IsExprNode names node)
IsExprNode-prop names (Variable x) = hlevel props
IsExprNode-prop names (This at) = hlevel props
IsExprNode-prop names (Null at) = hlevel props
IsExprNode-prop names (Field f) = hlevel props
IsExprNode-prop names (Call m arguments) = hlevel props
IsExprNode-prop names (New c) = hlevel props
IsExprNode-prop names (Cast c) = hlevel props
IsExprNode-prop names (Assign f) = hlevel props
IsExprNode-prop names (Original at arguments) = hlevel props

IsMember-prop : (names : List Text) (exprs : List ExprNode) (operation : MemberOp) → IsProp (IsMember names exprs operation)
IsMember-prop names exprs (AddsField f) = hlevel props
IsMember-prop names exprs (AddsMethod m) = hlevel props
IsMember-prop names exprs (ModifiesMethod m) = hlevel props
IsMember-prop names exprs (RemovesField f) = hlevel props
IsMember-prop names exprs (RemovesMethod m) = hlevel props

IsOperation-prop : (names : List Text) (exprs : List ExprNode) (operation : ClassOp) → IsProp (IsOperation names exprs operation)
IsOperation-prop names exprs (Adds c) = hlevel props
IsOperation-prop names exprs (Modifies c) = hlevel (props, IsMember-prop)
IsOperation-prop names exprs (Removes c) = hlevel props

pub IsWellFormed-prop : (source : Source) → IsProp (IsWellFormed source)
IsWellFormed-prop source = hlevel (props, IsFormulaNode-prop, IsExprNode-prop, IsOperation-prop)
