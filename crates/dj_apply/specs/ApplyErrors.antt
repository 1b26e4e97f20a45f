-- Why a configuration has no product.
use Rattle.std.specs.Prelude.{⊤}
use Rattle.dj_tree.specs.Trees.{Source}
use Rattle.dj_calculus.specs.Configurations.{Configuration}
use Rattle.dj_calculus.specs.Instances.{IsLeast}
use Rattle.dj_product_laws.specs.LineConflicts.{PreventsProduct}
use Rattle.dj_apply.specs.declared.products.ApplyError.{ApplyError}
use Rattle.dj_apply.specs.declared.products.ApplyError.TheVariants.{Broken, NoMemory}

-- the instance that is told is the least of layers 1 and 2 that counts
abbrev pub IsApplyError : Source → Configuration → ApplyError → Type 0
IsApplyError source c (Broken i) = IsLeast (PreventsProduct source c) i
IsApplyError source c NoMemory = ⊤
