-- The rules from 2 to 8 that the operations of a part break.
use Rattle.std.specs.Prelude.{◌≡◌, ℕ, List, take, slice_get, Some, Contains}
use Rattle.std.specs.List.{flat_map}
use Rattle.dj_tree.specs.Trees.{Operation, Part, Source}
use Rattle.dj_calculus.specs.Configurations.{Configuration}
use Rattle.dj_calculus.specs.Parts.{chain, active}
use Rattle.dj_calculus.specs.Tables.{Table}
use Rattle.dj_calculus.specs.Products.{Makes}
use Rattle.dj_calculus.specs.LineRules.{OperationRule}

-- the operations of the active deltas of a part
abbrev pub operations_in : Source → Configuration → Part → List Operation
operations_in source c part = flat_map (λ d. d.operations) (active source c part)

-- one of these operations breaks the rule on the table, at this place
abbrev pub AreBroken : List Operation → Table → ℕ → ℕ → Type 0
AreBroken operations t rule at = (x : Operation) × Contains operations x × OperationRule t x rule at

-- An operation of the part at place k of the chain breaks the rule at this place, on the table that the parts before make.
pub record BreaksAt (source : Source) (c : Configuration) (k rule at : ℕ) : Type 0 where
  pub part : Part
  pub at_k : slice_get (chain source) k ≡ Some part
  pub table : Table
  pub before : Makes source c (take k (chain source)) table
  pub broken : AreBroken (operations_in source c part) table rule at
