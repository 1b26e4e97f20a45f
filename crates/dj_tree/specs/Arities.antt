-- How many parts the nodes of formulas and expressions have.
use Rattle.std.specs.Prelude.{ℕ, ◌+◌}
use Rattle.dj_tree.specs.declared.formula.FormulaNode.{FormulaNode}
use Rattle.dj_tree.specs.declared.formula.FormulaNode.TheVariants.{True, False, Feature, Not, And, Or, Implies, Same}
use Rattle.dj_tree.specs.declared.expression.ExprNode.{ExprNode}
use Rattle.dj_tree.specs.declared.expression.ExprNode.TheVariants.{Variable, This, Null, Field, Call, New, Cast, Assign, Original}

abbrev pub formula_arity : FormulaNode → ℕ
formula_arity True = 0
formula_arity False = 0
formula_arity (Feature x) = 0
formula_arity Not = 1
formula_arity And = 2
formula_arity Or = 2
formula_arity Implies = 2
formula_arity Same = 2

abbrev pub expr_arity : ExprNode → ℕ
expr_arity (Variable x) = 0
expr_arity (This at) = 0
expr_arity (Null at) = 0
expr_arity (Field f) = 1
expr_arity (Call m arguments) = arguments + 1
expr_arity (New c) = 0
expr_arity (Cast c) = 1
expr_arity (Assign f) = 2
expr_arity (Original at arguments) = arguments
