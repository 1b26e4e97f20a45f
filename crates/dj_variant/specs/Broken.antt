-- Why a configuration has no well typed product.
use Rattle.std.specs.Prelude.{⊤}
use Rattle.dj_tree.specs.declared.source.Instance.{Instance}
use Rattle.dj_variant.specs.declared.typed_product.VariantError.{VariantError}
use Rattle.dj_variant.specs.declared.typed_product.VariantError.TheVariants.{Broken, NoMemory}

-- P holds of the instance, if that is the error
abbrev pub IfBroken : VariantError → (Instance → Type 0) → Type 0
IfBroken (Broken i) P = P i
IfBroken NoMemory P = ⊤
