-- Why a table isn't said to be well typed.
use Rattle.std.specs.Prelude.{⊤}
use Rattle.dj_tree.specs.declared.source.Instance.{Instance}
use Rattle.ifj_typing.specs.declared.typing.TypeError.{TypeError}
use Rattle.ifj_typing.specs.declared.typing.TypeError.TheVariants.{Broken, NoMemory}

-- P holds of the instance, if that is the error
abbrev pub IfBroken : TypeError → (Instance → Type 0) → Type 0
IfBroken (Broken i) P = P i
IfBroken NoMemory P = ⊤
