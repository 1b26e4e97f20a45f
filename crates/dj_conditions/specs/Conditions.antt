-- The gates of a formula of a source: a feature by its number in the list of features.
use Rattle.std.specs.Prelude.{◌≡◌, ℕ, ◌<◌, true, false, List, length, Some}
use Rattle.std.specs.List.{position_or_len}
use Rattle.std.specs.Str.{bytes_eq}
use Rattle.dj_names.specs.Texts.{Text}
use Rattle.arena_walk.specs.Tree.{Tree, nodes as nodes_of}
use Rattle.dj_tree.specs.Trees as plain
use Rattle.dj_tree.specs.Trees.{FormulaForm, TrueForm, FalseForm, FeatureForm, NotForm, AndForm, OrForm, ImpliesForm, SameForm}
use Rattle.dj_tree.specs.Plain.{in_form}
use Rattle.dj_calculus.specs.Formulas.{value}
use Rattle.dj_calculus.specs.Configurations.{Configuration, chosen}
use Rattle.dj_formula.specs.declared.formula.Gate.{Gate}
use Rattle.dj_formula.specs.declared.formula.Gate.TheVariants.{Constant, Feature, Not, And, Or, Implies, Same}
use Rattle.dj_formula.specs.declared.formula.Formula.{Formula}
use Rattle.dj_formula.specs.Value.{tree_of, HasValue}

-- the number of the first feature of this name, from 0, and how many features there are where none has it
abbrev pub feature_number : List plain.Spot → Text → ℕ
feature_number features x = position_or_len (λ f. bytes_eq f.text x) features

abbrev pub gate_of : List plain.Spot → FormulaForm → Gate
gate_of features TrueForm = Constant true
gate_of features FalseForm = Constant false
gate_of features (FeatureForm x) = Feature (feature_number features x.text)
gate_of features NotForm = Not
gate_of features AndForm = And
gate_of features OrForm = Or
gate_of features ImpliesForm = Implies
gate_of features SameForm = Same

-- the formula with gates in place of its forms
abbrev pub gates_of : List plain.Spot → plain.Formula → Tree Gate
gates_of features formula = in_form (gate_of features) formula

-- The formula of the code stands for a formula of the source: it has its gates, in post-order and no others, and in each
-- configuration its value.
pub record StandsFor (source : plain.Source) (formula : Formula) (meant : plain.Formula) : Type 0 where
  pub there : formula.root.0 < length formula.nodes
  pub tree : tree_of formula ≡ Some (gates_of source.features meant)
  pub nodes : formula.nodes ≡ nodes_of (gates_of source.features meant)
  pub value : (c : Configuration) → HasValue formula c (value (chosen source c) meant)
