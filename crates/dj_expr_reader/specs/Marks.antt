-- The nodes of an expression as a list.
use Rattle.std.specs.Prelude.{◌≡◌, ℕ, zero, suc, List, [], ◌∷◌, ◌++◌, length, drop, slice_get, unwrap_or}
use Rattle.arena_walk.specs.Tree.{Trees, branch, no_trees, tree_and, list_of}
use Rattle.dj_lexer.specs.Symbols.{Symbol}
use Rattle.dj_lexer.specs.declared.token.Dialect.{Dialect}
use Rattle.dj_tree.specs.Trees.{Expr, ExprForm, null_at}
use Rattle.dj_tree.specs.ExprGrammar.{SpellsExpr}

-- what stands at a node, and how many children it has
abbrev pub Mark : Type 0
Mark = ExprForm × ℕ

-- the nodes in post-order: those of the children in order, and then the root
abbrev mutual
  pub marks_of : Expr → List Mark
  marks_of (branch form parts) = marks_each parts ++ (form, length (list_of parts)) ∷ []

  pub marks_each : Trees ExprForm → List Mark
  marks_each no_trees = []
  marks_each (tree_and e parts) = marks_of e ++ marks_each parts

-- the symbols spell an expression with these nodes
pub record SpellsMarks (dialect : Dialect) (symbols : List Symbol) (marks : List Mark) : Type 0 where
  pub value : Expr
  pub spelled : SpellsExpr dialect symbols value
  pub same : marks ≡ marks_of value

-- ---- the expression of its nodes

-- so many expressions from a stack, the last one first, put before others
abbrev pub gather : ℕ → List Expr → Trees ExprForm → Trees ExprForm
gather zero stack others = others
gather (suc n) [] others = others
gather (suc n) (e ∷ stack) others = gather n stack (tree_and e others)

-- the expressions that a list of nodes leaves on a stack
abbrev pub grow : List Mark → List Expr → List Expr
grow [] stack = stack
grow (mark ∷ marks) stack = grow marks (branch mark.0 (gather mark.1 stack no_trees) ∷ drop mark.1 stack)

abbrev pub expr_of : List Mark → Expr
expr_of marks = unwrap_or (slice_get (grow marks []) 0) (null_at 0)
