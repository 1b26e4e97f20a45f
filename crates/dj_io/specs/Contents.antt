-- Files in memory, each a path and the bytes that are left of it. Of two files with one path the first counts.
use Rattle.std.specs.Prelude.{ℕ, suc, Bool, List, [], ◌∷◌, length, nat_lt, if◌then◌else◌}
use Rattle.std.specs.Str.{bytes_eq}

-- the place of the file of a path, or the number of files where none has it
abbrev pub place_of : List (List ℕ × List ℕ) → List ℕ → ℕ
place_of [] path = 0
place_of (file ∷ files) path = if bytes_eq file.0 path then 0 else suc (place_of files path)

-- what is left of a path: nothing where no file has it
abbrev pub left_of : List (List ℕ × List ℕ) → List ℕ → List ℕ
left_of [] path = []
left_of (file ∷ files) path = if bytes_eq file.0 path then file.1 else left_of files path

-- whether a file has the path
abbrev pub is_among : List (List ℕ × List ℕ) → List ℕ → Bool
is_among files path = nat_lt (place_of files path) (length files)
