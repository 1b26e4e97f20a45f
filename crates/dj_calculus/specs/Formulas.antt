-- The value of a formula, given which features are chosen.
use Rattle.std.specs.Prelude.{Bool, true, false, not, ◌&&◌, ◌||◌, List, [], ◌∷◌, Option, Some, None, if◌then◌else◌}
use Rattle.std.specs.List.{filter_map}
use Rattle.dj_names.specs.Texts.{Text}
use Rattle.arena_walk.specs.Tree.{nodes, fold_tree}
use Rattle.dj_tree.specs.Trees.{Spot, Formula, FormulaForm, TrueForm, FalseForm, FeatureForm, NotForm, AndForm, OrForm, ImpliesForm, SameForm}

-- the value at a node, given those of its parts. A formula has no node with another number of parts.
abbrev pub value_over : (Text → Bool) → FormulaForm → List Bool → Bool
value_over chosen TrueForm [] = true
value_over chosen FalseForm [] = false
value_over chosen (FeatureForm x) [] = chosen x.text
value_over chosen NotForm (a ∷ []) = not a
value_over chosen AndForm (a ∷ b ∷ []) = a && b
value_over chosen OrForm (a ∷ b ∷ []) = a || b
value_over chosen ImpliesForm (a ∷ b ∷ []) = not a || b
value_over chosen SameForm (a ∷ b ∷ []) = if a then b else not b
value_over chosen form parts = false

abbrev pub value : (Text → Bool) → Formula → Bool
value chosen formula = fold_tree (value_over chosen) formula

-- the names that a formula says
abbrev pub name_in : FormulaForm → Option Spot
name_in (FeatureForm x) = Some x
name_in form = None

abbrev pub names_in : Formula → List Spot
names_in formula = filter_map name_in (nodes formula)
