-- Texts made of pieces.
use Rattle.std.specs.Prelude.{List, [], ◌∷◌, ◌++◌}
use Rattle.dj_names.specs.Texts.{Text}

-- the pieces one behind the other
abbrev pub joined : List Text → Text
joined [] = []
joined (piece ∷ pieces) = piece ++ joined pieces

-- the byte at the end of each line
abbrev pub line_end : Text
line_end = 10 ∷ []
