-- What is left of the one file that is open.
use Rattle.std.specs.Prelude.{ℕ, List, String, Option, Some, None, if◌then◌else◌}
use Rattle.std.specs.Global.{Global}
use Rattle.std.specs.String.{string_bytes}
use Rattle.std.specs.Str.{bytes_eq}

-- The bytes that are left of a path, where that path is open and its file tells them. `remaining` is what files tell.
abbrev pub left_open : {F : Type 0} → (F → Option (List ℕ)) → Option (String Global × F) → List ℕ → Option (List ℕ)
left_open remaining None path = None
left_open remaining (Some opened) path = if bytes_eq (string_bytes opened.0) path then remaining opened.1 else None
