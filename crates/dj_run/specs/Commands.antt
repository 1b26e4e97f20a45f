-- The closed table of commands: which words are which command.
use Rattle.std.specs.Prelude.{◌≡◌, ℕ, ◌+◌, ◌-◌, ◌*◌, Bool, false, ◌&&◌, List, [], ◌∷◌, Option, Some, None, codes, nat_le, if◌then◌else◌}
use Rattle.std.specs.Str.{bytes_eq}
use Rattle.dj_names.specs.Texts.{Text}

-- a command with its operands, which are paths, a configuration word, an order of deltas, or a count
pub data Command : Type 0 where
  check : Text → Command
  generate : Text → Text → Command
  generate_in_order : Text → Text → Text → Command
  verify : Text → Text → Command
  explain : Text → Command
  typecheck : Text → Command
  sample : Text → Command
  try : Text → Command

abbrev pub is_digit : ℕ → Bool
is_digit byte = nat_le 48 byte && nat_le byte 57

-- a decimal from 1 to 64, without sign or leading zero
abbrev pub is_count : Text → Bool
is_count [] = false
is_count (ones ∷ []) = nat_le 49 ones && is_digit ones
is_count (tens ∷ ones ∷ []) = nat_le 49 tens && is_digit tens && is_digit ones && nat_le (10 * (tens - 48) + (ones - 48)) 64
is_count (_ ∷ _ ∷ _ ∷ _) = false

-- the commands with one operand
abbrev pub command_of_one : Text → Text → Option Command
command_of_one word x =
    if bytes_eq word (codes "check") then Some (check x)
    else (if bytes_eq word (codes "explain") then Some (explain x)
    else (if bytes_eq word (codes "typecheck") then Some (typecheck x)
    else (if bytes_eq word (codes "sample") && is_count x then Some (sample x)
    else (if bytes_eq word (codes "try") && is_count x then Some (try x) else None))))

-- those with two
abbrev pub command_of_two : Text → Text → Text → Option Command
command_of_two word x y =
    if bytes_eq word (codes "generate") then Some (generate x y)
    else (if bytes_eq word (codes "verify") then Some (verify x y) else None)

-- those with three
abbrev pub command_of_three : Text → Text → Text → Text → Option Command
command_of_three word x y z = if bytes_eq word (codes "generate") then Some (generate_in_order x y z) else None

-- the command that the words say, if any
abbrev pub command_of : List Text → Option Command
command_of [] = None
command_of (word ∷ []) = None
command_of (word ∷ x ∷ []) = command_of_one word x
command_of (word ∷ x ∷ y ∷ []) = command_of_two word x y
command_of (word ∷ x ∷ y ∷ z ∷ []) = command_of_three word x y z
command_of (_ ∷ _ ∷ _ ∷ _ ∷ _ ∷ _) = None

-- `generate` with its file, its configuration word, and its order word where one is given
abbrev pub generation : Text → Text → Option Text → Command
generation file config None = generate file config
generation file config (Some order) = generate_in_order file config order

-- a command that isn't built yet
abbrev pub IsUnbuilt : Option Command → Type 0
IsUnbuilt None = ⊥
IsUnbuilt (Some (check _)) = ⊥
IsUnbuilt (Some (generate _ _)) = ⊥
IsUnbuilt (Some (generate_in_order _ _ _)) = ⊥
IsUnbuilt (Some (verify _ _)) = Unit {0}
IsUnbuilt (Some (explain _)) = Unit {0}
IsUnbuilt (Some (typecheck _)) = ⊥
IsUnbuilt (Some (sample _)) = Unit {0}
IsUnbuilt (Some (try _)) = Unit {0}

-- the file that a command reads, if any
abbrev pub file_of : Option Command → Option Text
file_of None = None
file_of (Some (check file)) = Some file
file_of (Some (generate file _)) = Some file
file_of (Some (generate_in_order file _ _)) = Some file
file_of (Some (verify _ _)) = None
file_of (Some (explain _)) = None
file_of (Some (typecheck file)) = Some file
file_of (Some (sample _)) = None
file_of (Some (try _)) = None

abbrev pub ReadsFile : Option Command → Text → Type 0
ReadsFile command file = file_of command ≡ Some file
