-- What is promised of the reading of expressions.
use Rattle.std.specs.Prelude.{◌≡◌, List, codes}
use Rattle.dj_lexer.specs.Symbols.{Symbol}
use Rattle.dj_lexer.specs.declared.token.Dialect.{Dialect}
use Rattle.dj_tree.specs.Trees.{Expr}
use Rattle.dj_tree.specs.ExprGrammar.{SpellsExpr}
use Rattle.dj_reader.specs.Reading.{Outcome, IsReader, IsSign}
use Rattle.dj_reader.specs.Combining.{mapped}
use Rattle.dj_expr_reader.specs.Marks.{SpellsMarks, marks_of, expr_of}
use Rattle.dj_expr_reader.specs.Machine.{expr_reading}

-- expressions that end at a `;` are read, and nothing else
abbrev pub ExpressionsAreRead : Type 0
ExpressionsAreRead = (dialect : Dialect) → IsReader (SpellsMarks dialect) (IsSign (codes ";")) (expr_reading dialect)

-- the reading of expressions as trees
abbrev pub expr_trees : Dialect → List Symbol → Outcome Expr
expr_trees dialect symbols = mapped expr_of (expr_reading dialect) symbols

-- the same, each as its tree
abbrev pub ExprTreesAreRead : Type 0
ExprTreesAreRead = (dialect : Dialect) → IsReader (SpellsExpr dialect) (IsSign (codes ";")) (expr_trees dialect)

-- an expression is told by its nodes
abbrev pub OneExpression : Type 0
OneExpression = (d e : Expr) → marks_of d ≡ marks_of e → d ≡ e
