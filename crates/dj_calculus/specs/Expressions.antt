-- Which trees are expressions: each node has as many parts as its form takes.
use Rattle.std.specs.Prelude.{Bool, true, false, ◌&&◌, ◌++◌, IsTrue, List, Contains}
use Rattle.arena_walk.specs.Tree.{Trees, branch, no_trees, tree_and}
use Rattle.dj_tree.specs.Trees.{Expr, ExprForm, VariableForm, ThisForm, NullForm, FieldForm, CallForm, NewForm, CastForm, AssignForm, OriginalForm, Method, Class, Source}
use Rattle.dj_calculus.specs.Contents.{new_methods, modified_methods}

-- whether a node of this form takes so many parts
abbrev pub takes : ExprForm → Trees ExprForm → Bool
takes (VariableForm x) no_trees = true
takes (ThisForm at) no_trees = true
takes (NullForm at) no_trees = true
takes (NewForm c) no_trees = true
takes (FieldForm f) (tree_and e no_trees) = true
takes (CastForm c) (tree_and e no_trees) = true
takes (AssignForm f) (tree_and e (tree_and v no_trees)) = true
takes (CallForm m) (tree_and e arguments) = true
takes (OriginalForm at) arguments = true
takes form parts = false

abbrev mutual
  pub is_expression : Expr → Bool
  is_expression (branch form parts) = takes form parts && are_expressions parts

  pub are_expressions : Trees ExprForm → Bool
  are_expressions no_trees = true
  are_expressions (tree_and e es) = is_expression e && are_expressions es

abbrev pub IsExpression : Expr → Type 0
IsExpression e = IsTrue (is_expression e)

-- the bodies of all methods of a source are expressions
abbrev pub HasExpressions : Source → Type 0
HasExpressions source = (m : Method) → Contains (new_methods source ++ modified_methods source) m → IsExpression m.body

-- the bodies of all methods of these classes are
abbrev pub HaveExpressions : List Class → Type 0
HaveExpressions classes = (c : Class) (m : Method) → Contains classes c → Contains c.methods m → IsExpression m.body
