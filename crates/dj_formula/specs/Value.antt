-- The tree of a formula, its value in a configuration, and its features.
use Rattle.std.specs.Prelude.{◌≡◌, ℕ, ◌<◌, Bool, false, not, ◌&&◌, ◌||◌, List, [], ◌∷◌, Contains, Option, Some, slice_index_or}
use Rattle.std.specs.Bool.{beq}
use Rattle.std.specs.Option.{option_map}
use Rattle.arena_walk.specs.Tree.{Tree, nodes, fold_tree}
use Rattle.arena_walk.specs.Forest.{tree_at}
use Rattle.dj_formula.specs.declared.formula.Gate.{Gate}
use Rattle.dj_formula.specs.declared.formula.Gate.TheVariants.{Constant, Feature, Not, And, Or, Implies, Same}
use Rattle.dj_formula.specs.declared.formula.Formula.{Formula}
use Rattle.dj_formula.specs.Gates.{operands}

-- the tree of a formula, which there is where its root is in its arena
abbrev pub tree_of : Formula → Option (Tree Gate)
tree_of formula = tree_at operands formula.nodes formula.root.0

-- the value of a gate whose operands have these values, in a configuration: a truth value for each feature, and
-- false past its end. No gate of a formula has another number of operands than it needs.
abbrev pub gate_value : List Bool → Gate → List Bool → Bool
gate_value chosen (Constant b) values = b
gate_value chosen (Feature f) values = slice_index_or chosen f false
gate_value chosen Not (a ∷ []) = not a
gate_value chosen And (a ∷ b ∷ []) = a && b
gate_value chosen Or (a ∷ b ∷ []) = a || b
gate_value chosen Implies (a ∷ b ∷ []) = not a || b
gate_value chosen Same (a ∷ b ∷ []) = beq a b
gate_value chosen gate values = false

-- the value of a tree of gates: that of its root, from those of its children
abbrev pub value_of : List Bool → Tree Gate → Bool
value_of chosen tree = fold_tree (gate_value chosen) tree

-- the value of a formula is that of its tree
abbrev pub HasValue : Formula → List Bool → Bool → Type 0
HasValue formula chosen value = option_map (value_of chosen) (tree_of formula) ≡ Some value

-- each feature in the tree has a number below n
abbrev pub HasFeaturesBelow : ℕ → Tree Gate → Type 0
HasFeaturesBelow n tree = (feature : ℕ) → Contains (nodes tree) (Feature feature) → feature < n
