-- The nodes of formulas and expressions in post-order.
use Rattle.std.specs.Prelude.{ℕ, ◌+◌, List, map}
use Rattle.dj_formula_reader.specs.declared.machine.FormulaMark.{FormulaMark}
use Rattle.dj_formula_reader.specs.declared.machine.FormulaMark.TheVariants as formula
use Rattle.dj_expr_reader.specs.declared.machine.ExprMark.{ExprMark}
use Rattle.dj_expr_reader.specs.declared.machine.ExprMark.TheVariants as expr
use Rattle.dj_tree.specs.PostOrder.{IsPostOrder}

-- how many children the node of a mark has
abbrev pub formula_arity : FormulaMark → ℕ
formula_arity formula.True = 0
formula_arity formula.False = 0
formula_arity (formula.Feature x) = 0
formula_arity formula.Not = 1
formula_arity formula.And = 2
formula_arity formula.Or = 2
formula_arity formula.Implies = 2
formula_arity formula.Same = 2

abbrev pub expr_arity : ExprMark → ℕ
expr_arity (expr.Variable x) = 0
expr_arity (expr.This token) = 0
expr_arity (expr.Null token) = 0
expr_arity (expr.Field f) = 1
expr_arity (expr.Call m arguments) = arguments + 1
expr_arity (expr.New class) = 0
expr_arity (expr.Cast class) = 1
expr_arity (expr.Assign f) = 2
expr_arity (expr.Original token arguments) = arguments

-- the marks are the nodes of one formula, and of one expression, in post-order
abbrev pub IsFormulaOrder : List FormulaMark → Type 0
IsFormulaOrder marks = IsPostOrder (map formula_arity marks)

abbrev pub IsExprOrder : List ExprMark → Type 0
IsExprOrder marks = IsPostOrder (map expr_arity marks)
