-- The gate of a node of the code, where features are told by the numbers of their names.
use Rattle.std.specs.Prelude.{ℕ, true, false, List, nat_eq}
use Rattle.std.specs.List.{position_or_len}
use Rattle.dj_tree.specs.declared.formula.FormulaNode.{FormulaNode}
use Rattle.dj_tree.specs.declared.formula.FormulaNode.TheVariants as node
use Rattle.dj_formula.specs.declared.formula.Gate.{Gate}
use Rattle.dj_formula.specs.declared.formula.Gate.TheVariants.{Constant, Feature, Not, And, Or, Implies, Same}

-- `names` are the numbers of the features' names
abbrev pub node_gate : List ℕ → FormulaNode → Gate
node_gate names node.True = Constant true
node_gate names node.False = Constant false
node_gate names (node.Feature x) = Feature (position_or_len (nat_eq x.name.0) names)
node_gate names node.Not = Not
node_gate names node.And = And
node_gate names node.Or = Or
node_gate names node.Implies = Implies
node_gate names node.Same = Same
