-- What the tables of an accepted line keep, and that its facts have one proof at most.
use Rattle.std.proofs.Props.{props}
use Rattle.std.specs.Prelude.{◌≡◌, ◌≤◌, ℕ, List, length, map, slice_get, Some}
use Rattle.dj_names.specs.Texts.{Text}
use Rattle.dj_tree.specs.Plain.{plain_source}
use Rattle.dj_tree.specs.declared.source.Source.{Source}
use Rattle.dj_formula.specs.declared.formula.Formula.{Formula}
use Rattle.dj_conditions.specs.Conditions.{StandsFor}
use Rattle.dj_conditions.specs.Sets.{StandsFor-prop}
use Rattle.dj_line.specs.Placing.{numbers_along, StandsIn, condition_of}

-- the tables of a line: its features and deltas by the numbers of their names, the numbers of each part's deltas along the chain, the
-- part of each delta, and its formulas
pub record AreTables (source : Source) (features deltas : List ℕ) (items : List (List ℕ)) (part_numbers : List ℕ) (valid : Formula) (conditions : List Formula) : Type 0 where
  pub features_are : features ≡ map (λ f. f.name.0) source.features
  pub deltas_are : deltas ≡ map (λ d. d.spot.name.0) source.deltas
  pub few_deltas : length source.deltas ≤ 4294967295
  pub items_are : items ≡ numbers_along (plain_source source)
  pub as_many_parts : length part_numbers ≡ length source.deltas
  pub parts_are : (delta part : ℕ) → slice_get part_numbers delta ≡ Some part → StandsIn (plain_source source) delta part
  pub valid_is : StandsFor (plain_source source) valid (plain_source source).valid
  pub as_many_conditions : length conditions ≡ length source.deltas
  pub conditions_are : (delta : ℕ) (formula : Formula) → slice_get conditions delta ≡ Some formula → StandsFor (plain_source source) formula (condition_of (plain_source source) delta)

pub AreTables-prop : (source : Source) (features deltas : List ℕ) (items : List (List ℕ)) (part_numbers : List ℕ) (valid : Formula) (conditions : List Formula) → IsProp (AreTables source features deltas items part_numbers valid conditions)
AreTables-prop source features deltas items part_numbers valid conditions = hlevel (props, StandsFor-prop)
