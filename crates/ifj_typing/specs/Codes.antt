-- Expressions that tests make.
use Rattle.std.specs.Prelude.{◌<◌, ◌≤◌, ℕ, List, All, length}
use Rattle.dj_names.specs.Texts.{Text}
use Rattle.dj_tree.specs.WellFormed.{IsExprNode}
use Rattle.dj_tree.specs.declared.expression.ExprNode.{ExprNode}

-- the names and the nodes of an expression whose root has this number: few of both, and the names of the nodes are there
pub record IsCode (names : List Text) (exprs : List ExprNode) (root : ℕ) : Type 0 where
  pub there : root < length exprs
  pub known : All (IsExprNode names) exprs
  pub few_nodes : length exprs ≤ 20
  pub few_names : length names ≤ 20
