-- Good configurations and good lines: the active deltas of each part are disjoint, there is a product, and it is well typed.
use Rattle.std.specs.Prelude.{Contains}
use Rattle.std.specs.List.{AllPairs}
use Rattle.dj_tree.specs.Trees.{Part, Source}
use Rattle.dj_calculus.specs.Configurations.{Configuration, IsValid}
use Rattle.dj_calculus.specs.Parts.{chain, active}
use Rattle.dj_calculus.specs.Conflicts.{Disjoint}
use Rattle.dj_calculus.specs.Tables.{Table}
use Rattle.dj_calculus.specs.Products.{Product}
use Rattle.dj_calculus.specs.Typing.{WellTyped}

-- the active deltas of each part are disjoint, and there is a product
pub record HasProduct (source : Source) (c : Configuration) : Type 0 where
  pub disjoint : (part : Part) → Contains (chain source) part → AllPairs Disjoint (active source c part)
  pub table : Table
  pub product : Product source c table

-- besides, the product is well typed
pub record GoodAt (source : Source) (c : Configuration) : Type 0 where
  pub has : HasProduct source c
  pub typed : WellTyped has.table

-- Every valid configuration is good.
abbrev pub IsGood : Source → Type 0
IsGood source = (c : Configuration) → IsValid source c → GoodAt source c

-- No configuration is valid. Such a line is good.
abbrev pub IsVoid : Source → Type 0
IsVoid source = (c : Configuration) → ¬ (IsValid source c)
