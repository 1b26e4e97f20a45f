-- Places of byte offsets: lines, and columns in characters, both from 1.
use Rattle.std.specs.Prelude.{◌≡◌, ◌≢◌, ◌≤◌, ◌<◌, ℕ, ◌+◌, ◌-◌, ◌==◌, Bool, true, false, not, ◌&&◌, ◌||◌, List, nat_le, slice_index, slice_range, count_by}
use Rattle.std.specs.List.{range_with_len}

-- the byte at this offset is the last of a line end: of LF or CR LF, or a CR that no LF follows
abbrev pub ends_line : List ℕ → ℕ → Bool
ends_line bytes at = slice_index bytes at == 10 || (slice_index bytes at == 13 && not (slice_index bytes (at + 1) == 10))

-- how many line ends are complete before the offset
abbrev pub line_ends_before : List ℕ → ℕ → ℕ
line_ends_before bytes at = count_by (ends_line bytes) (range_with_len 0 at)

-- the line of the offset `at` starts at `start`: at 0 or behind a line end, and no line end is complete from there to `at`
pub record IsLineStart (bytes : List ℕ) (start at : ℕ) : Type 0 where
  pub not_after : start ≤ at
  pub begins : start ≢ 0 → ends_line bytes (start - 1) ≡ true
  pub one_line : (k : ℕ) → start ≤ k → k < at → ends_line bytes k ≡ false

-- the byte isn't the first of its character in UTF-8: 0x80 to 0xBF
abbrev pub continues_character : ℕ → Bool
continues_character byte = nat_le 128 byte && nat_le byte 191

-- how many characters begin from one offset up to another
abbrev pub characters_between : List ℕ → ℕ → ℕ → ℕ
characters_between bytes from to = count_by (λ byte. not (continues_character byte)) (slice_range bytes from to)

-- the column of the offset: 1 more than the characters from the start of its line up to it
abbrev pub IsColumn : List ℕ → ℕ → ℕ → Type 0
IsColumn bytes at column = (start : ℕ) × IsLineStart bytes start at × (column ≡ characters_between bytes start at + 1)
