-- Lists of distinct texts, as a table of names is seen.
use Rattle.std.specs.Prelude.{◌≡◌, ℕ, List, [], ◌∷◌, ◌++◌, if◌then◌else◌, Some, slice_get}
use Rattle.std.specs.List.{list_any}
use Rattle.std.specs.Str.{bytes_eq}

-- a text: its bytes in UTF-8
abbrev pub Text : Type 0
Text = List ℕ

-- no text stands at two places
abbrev pub AreDistinct : List Text → Type 0
AreDistinct texts = (i j : ℕ) (text : Text) → slice_get texts i ≡ Some text → slice_get texts j ≡ Some text → i ≡ j

-- the texts with one that goes last where it is new
abbrev pub with_text : List Text → Text → List Text
with_text texts text = if list_any (bytes_eq text) texts then texts else texts ++ text ∷ []

-- the texts before stand first, so each keeps its place
abbrev pub Extends : List Text → List Text → Type 0
Extends before after = (more : List Text) × (after ≡ before ++ more)
