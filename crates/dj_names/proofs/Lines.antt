-- One byte further in a line, and the start and the column that a recursion over the bytes gives.
use Rattle.std.proofs.Common.{◌≡◌, ◌<◌, ◌≤◌, ◌+◌, ◌-◌, ℕ, zero, suc, Bool, true, false, cond, not, List, [], ◌∷◌, ◌++◌, length, get_or, refl, sym, ap, subst, ◌∙◌, arith, add-one}
use Rattle.std.proofs.Math.Logic.{⊎_elim}
use Rattle.std.proofs.Math.Nat.{eq-or-lt_of_le}
use Rattle.std.specs.Prelude.{count_by, slice_range}
use Rattle.std.specs.List.{range_with_len}
use Rattle.std.proofs.lemmas.List.{map-id}
use Rattle.std.proofs.lemmas.List.Edits.{between_more, between_none}
use Rattle.std.proofs.lemmas.List.FromFn.{map-range_with_len_more}
use Rattle.std.proofs.lemmas.List.Sums.{sum_by_push}
use Rattle.dj_names.specs.Place.{ends_line, line_ends_before, IsLineStart, characters_between, continues_character, IsColumn}

-- where the line of the offset starts: after the last line end that is complete before it
abbrev line_start : List ℕ → ℕ → ℕ
line_start bytes zero = 0
line_start bytes (suc at) = cond (ends_line bytes at) (suc at) (line_start bytes at)

-- the column that counts from there
abbrev pub column_at : List ℕ → ℕ → ℕ
column_at bytes at = characters_between bytes (line_start bytes at) at + 1

numbers_more : (n : ℕ) → range_with_len 0 (n + 1) ≡ range_with_len 0 n ++ n ∷ []
numbers_more n =
    sym (map-id (range_with_len 0 (n + 1))) ∙ map-range_with_len_more (λ (k : ℕ). k) 0 n n (omega arith)
    ∙ ap (λ ns. ns ++ n ∷ []) (map-id (range_with_len 0 n))

pub line_ends-next : (bytes : List ℕ) (at : ℕ) (ends : Bool) → ends_line bytes at ≡ ends → line_ends_before bytes (at + 1) ≡ line_ends_before bytes at + cond ends 1 0
line_ends-next bytes at ends e =
    ap (count_by (ends_line bytes)) (numbers_more at) ∙ sum_by_push (λ k. cond (ends_line bytes k) 1 0) (range_with_len 0 at) at
    ∙ ap (λ test. line_ends_before bytes at + cond test 1 0) e

-- the start of a line, one byte further
next_start : (bytes : List ℕ) (start at : ℕ) → IsLineStart bytes start at → (ends : Bool) → ends_line bytes at ≡ ends → IsLineStart bytes (cond ends (suc at) start) (suc at)
next_start bytes start at here true e =
    let before : suc at - 1 ≡ at = omega arith in
    record {
      not_after = omega arith;
      begins = λ _. ap (ends_line bytes) before ∙ e;
      one_line = λ k low high. absurd (omega arith);
    }
next_start bytes start at here false e =
    record {
      not_after = omega (arith, here.not_after);
      begins = here.begins;
      one_line = λ k low high.
          let P : ℕ → Type 0 = λ i. ends_line bytes i ≡ false in
          let within : k ≤ at = omega arith in
          ⊎_elim (λ (same : k ≡ at). subst P (sym same) e) (λ (less : k < at). here.one_line k low less) (eq-or-lt_of_le within);
    }

line_start-is : (bytes : List ℕ) (at : ℕ) → IsLineStart bytes (line_start bytes at) at
line_start-is bytes zero =
    record { not_after = omega arith; begins = λ some. absurd (some refl); one_line = λ k low high. absurd (omega arith) }
line_start-is bytes (suc at) = next_start bytes (line_start bytes at) at (line_start-is bytes at) (ends_line bytes at) refl

pub is_column : (bytes : List ℕ) (at column : ℕ) → column ≡ column_at bytes at → IsColumn bytes at column
is_column bytes at column is = (line_start bytes at, line_start-is bytes at, is)

counted : (p : ℕ → Bool) (bytes : List ℕ) (start at : ℕ) → start ≤ at → at < length bytes → count_by p (slice_range bytes start (at + 1)) ≡ count_by p (slice_range bytes start at) + cond (p (get_or bytes at 0)) 1 0
counted p bytes start at l in_bytes = ap (count_by p) (between_more bytes start at 0 l in_bytes) ∙ sum_by_push (λ byte. cond (p byte) 1 0) (slice_range bytes start at) (get_or bytes at 0)

starts : (bytes : List ℕ) (at : ℕ) (ends : Bool) → ends_line bytes at ≡ ends → line_start bytes (at + 1) ≡ cond ends (at + 1) (line_start bytes at)
starts bytes at ends e = rw (add-one at, e) refl

pub column_at-ends : (bytes : List ℕ) (at : ℕ) → ends_line bytes at ≡ true → column_at bytes (at + 1) ≡ 1
column_at-ends bytes at e =
    ap (λ start. characters_between bytes start (at + 1) + 1) (starts bytes at true e)
    ∙ ap (λ part. count_by (λ byte. not (continues_character byte)) part + 1) (between_none bytes (at + 1))

pub column_at-next : (bytes : List ℕ) (at : ℕ) (begins : Bool) → at < length bytes → ends_line bytes at ≡ false → begins ≡ not (continues_character (get_or bytes at 0)) → column_at bytes (at + 1) ≡ column_at bytes at + cond begins 1 0
column_at-next bytes at begins in_bytes e is =
    let more = counted (λ byte. not (continues_character byte)) bytes (line_start bytes at) at (line_start-is bytes at).not_after in_bytes in
    let count : ℕ → ℕ = λ before. before + 1 in
    rw is (ap (λ start. characters_between bytes start (at + 1) + 1) (starts bytes at false e) ∙ ap count more ∙ omega arith)
