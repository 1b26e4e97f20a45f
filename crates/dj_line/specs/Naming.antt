-- A name in a list of names.
use Rattle.std.specs.Prelude.{◌≡◌, ℕ, List, slice_get, Some}
use Rattle.dj_names.specs.Texts.{Text}
use Rattle.dj_tree.specs.Trees.{Spot}

-- the name of this number has this text
abbrev pub IsNamedAt : List Spot → ℕ → Text → Type 0
IsNamedAt names number text = (x : Spot) × (slice_get names number ≡ Some x) × (x.text ≡ text)
