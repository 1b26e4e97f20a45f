-- Lines of few features, and what is said of one.
use Rattle.std.specs.Prelude.{⊤, ◌≤◌, length}
use Rattle.dj_tree.specs.Trees.{Source}
use Rattle.dj_tree.specs.declared.source.Instance.{Instance}
use Rattle.dj_calculus.specs.Configurations.{Configuration, IsValid}
use Rattle.dj_calculus.specs.Good.{GoodAt}
use Rattle.dj_calculus.specs.Instances.{IsLeast}
use Rattle.dj_calculus.specs.LineRules.{Counts}
use Rattle.dj_line.specs.declared.errors.Config.{Config}
use Rattle.dj_check.specs.declared.trial.Small.{Small}
use Rattle.dj_check.specs.declared.trial.Small.TheVariants.{Yes, No}

-- a line has at most 12 features
abbrev pub IsSmall : Source → Type 0
IsSmall source = length source.features ≤ 12

abbrev pub IsGoodWhereValid : Source → Configuration → Type 0
IsGoodWhereValid source c = IsValid source c → GoodAt source c

-- the configuration is valid and not good, and the instance is the least that counts in it
pub record Fails (source : Source) (c : Configuration) (i : Instance) : Type 0 where
  pub valid : IsValid source c
  pub bad : ¬ (GoodAt source c)
  pub least : IsLeast (Counts source c) i

-- yes says that P holds, and no that it doesn't
abbrev pub Decides : Small → Type 0 → Type 0
Decides Yes P = P
Decides (No c i) P = ¬ P

-- P holds of the configuration and the instance of a no
abbrev pub IfNo : Small → (Config → Instance → Type 0) → Type 0
IfNo Yes P = ⊤
IfNo (No c i) P = P c i
