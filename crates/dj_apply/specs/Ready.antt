-- What an operation of an accepted line has, so that it can be applied.
use Rattle.std.specs.Prelude.{◌≢◌, ℕ, List, All, Contains}
use Rattle.std.specs.List.{filter_map}
use Rattle.dj_names.specs.Texts.{Text}
use Rattle.dj_tree.specs.Trees.{MemberOperation, adds_field, adds_method, modifies_method, removes_field, removes_method}
use Rattle.dj_tree.specs.Plain.{plain_operation}
use Rattle.dj_tree.specs.WellFormed.{IsExprNode, IsOperation}
use Rattle.dj_tree.specs.declared.expression.ExprNode.{ExprNode}
use Rattle.dj_tree.specs.declared.declarations.ClassOp.{ClassOp}
use Rattle.dj_calculus.specs.Contents.{class_name, field_name, method_name}
use Rattle.dj_calculus.specs.Expressions.{IsExpression}
use Rattle.dj_calculus.specs.FaultPlaces.{Repeats}
use Rattle.dj_calculus.specs.Subclasses.{object}
use Rattle.dj_source_laws.specs.Once.{members_in}

-- the body that it says, where it says one, is an expression
abbrev pub HasBody : MemberOperation → Type 0
HasBody (adds_field f) = Unit {0}
HasBody (adds_method m) = IsExpression m.body
HasBody (modifies_method m) = IsExpression m.body
HasBody (removes_field f) = Unit {0}
HasBody (removes_method m) = Unit {0}

-- each of these members is on a field, or on a method, of its own, and says no body that isn't an expression
pub record AreMembers (members : List MemberOperation) : Type 0 where
  pub fields : (at : ℕ) → ¬ (Repeats (filter_map field_name members) at)
  pub methods : (at : ℕ) → ¬ (Repeats (filter_map method_name members) at)
  pub bodies : (m : MemberOperation) → Contains members m → HasBody m

-- its names and nodes are there, it isn't on `Object`, and its members are such
pub record IsReady (names : List Text) (exprs : List ExprNode) (x : ClassOp) : Type 0 where
  pub known : IsOperation names exprs x
  pub nodes : All (IsExprNode names) exprs
  pub declarable : (class_name (plain_operation names exprs x)).text ≢ object
  pub members : AreMembers (members_in (plain_operation names exprs x))
