-- Places in words.
use Rattle.std.specs.Prelude.{ℕ, ◌+◌, List, ◌++◌, codes}
use Rattle.std.specs.Fmt.{decimal}
use Rattle.dj_names.specs.Texts.{Text}
use Rattle.dj_names.specs.Place.{line_ends_before, IsColumn}

-- line and column of a byte offset, with a colon between them
pub data IsPlaceText (bytes : List ℕ) (at : ℕ) : Text → Type 0 where
  line_and_column : (column : ℕ) → IsColumn bytes at column
      → IsPlaceText bytes at (decimal (line_ends_before bytes at + 1) ++ (codes ":" ++ decimal column))
