-- Conflicts of a configuration, and the instances of rules that leave it without a product.
use Rattle.std.specs.Prelude.{◌≡◌, ℕ, ◌<◌, ◌≤◌, slice_get, Some, Contains}
use Rattle.dj_tree.specs.Trees.{Delta, Part, Source}
use Rattle.dj_tree.specs.declared.source.Instance.{Instance}
use Rattle.dj_calculus.specs.Configurations.{Configuration}
use Rattle.dj_calculus.specs.Parts.{chain, active}
use Rattle.dj_calculus.specs.Conflicts.{ConflictAt}
use Rattle.dj_calculus.specs.Instances.{layer}
use Rattle.dj_calculus.specs.LineRules.{Counts}

-- Two active deltas of one part have things that conflict at these places, the first in the delta of the earlier item.
pub record ConflictIn (source : Source) (c : Configuration) (first second : ℕ) : Type 0 where
  pub part : Part
  pub of_chain : Contains (chain source) part
  pub i : ℕ
  pub j : ℕ
  pub behind : i < j
  pub one : Delta
  pub other : Delta
  pub at_i : slice_get (active source c part) i ≡ Some one
  pub at_j : slice_get (active source c part) j ≡ Some other
  pub clash : ConflictAt one other first second

-- an instance of layers 1 and 2 that counts
abbrev pub PreventsProduct : Source → Configuration → Instance → Type 0
PreventsProduct source c i = Counts source c i × (layer i.rule ≤ 2)
