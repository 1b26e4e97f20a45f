-- What is promised of the reading of formulas.
use Rattle.std.specs.Prelude.{◌≡◌, ℕ, List, codes, unwrap_or, slice_get}
use Rattle.arena_walk.specs.Tree.{nodes}
use Rattle.arena_walk.specs.Forest.{trees}
use Rattle.dj_lexer.specs.Symbols.{Symbol}
use Rattle.dj_tree.specs.Trees.{Formula, always, FormulaForm, TrueForm, FalseForm, FeatureForm, NotForm, AndForm, OrForm, ImpliesForm, SameForm}
use Rattle.dj_tree.specs.FormulaGrammar.{SpellsFormula}
use Rattle.dj_reader.specs.Reading.{Outcome, IsReader, IsSign}
use Rattle.dj_reader.specs.Combining.{mapped}
use Rattle.dj_formula_reader.specs.Machine.{formula_reading}

-- the symbols spell a formula, which has these nodes in post-order
pub record SpellsNodes (s : List Symbol) (forms : List FormulaForm) : Type 0 where
  pub value : Formula
  pub spelled : SpellsFormula s value
  pub same : forms ≡ nodes value

-- how many parts a node has
abbrev pub parts : FormulaForm → ℕ
parts TrueForm = 0
parts FalseForm = 0
parts (FeatureForm x) = 0
parts NotForm = 1
parts AndForm = 2
parts OrForm = 2
parts ImpliesForm = 2
parts SameForm = 2

-- the formula of these nodes
abbrev pub formula_of : List FormulaForm → Formula
formula_of forms = unwrap_or (slice_get (trees parts forms) 0) always

-- the reading of formulas as trees
abbrev pub formula_trees : List Symbol → Outcome Formula
formula_trees symbols = mapped formula_of formula_reading symbols

-- formulas that end at a `;` are read, and nothing else
abbrev pub FormulasAreRead : Type 0
FormulasAreRead = IsReader SpellsNodes (IsSign (codes ";")) formula_reading

-- the same, each as its tree
abbrev pub FormulaTreesAreRead : Type 0
FormulaTreesAreRead = IsReader SpellsFormula (IsSign (codes ";")) formula_trees

-- the nodes of a formula that symbols spell are those of no other
abbrev pub OneFormula : Type 0
OneFormula = (s t : List Symbol) (a b : Formula) → SpellsFormula s a → SpellsFormula t b → nodes a ≡ nodes b → a ≡ b
