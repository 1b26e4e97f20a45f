-- The canonical text as words, marks and blanks.
use Rattle.std.proofs.Common.{◌≡◌, ℕ, ◌+◌, Bool, true, false, List, [], ◌∷◌, ◌++◌, length, refl, sym, ap, ◌∙◌, arith, append_assoc, length-append}
use Rattle.dj_names.specs.Texts.{Text}
use Rattle.dj_lexer.specs.Symbols.{Symbol}
use Rattle.dj_tree.specs.Words.{word, sign}
use Rattle.java_text_laws.proofs.JavaWords.{IsWord}

-- the marks of the text, `(`, `)`, `{`, `}`, `;`, `,`, `.` and `=`
pub data Mark : Type 0 where
  opening : Mark
  closing : Mark
  left : Mark
  right : Mark
  semicolon : Mark
  comma : Mark
  dot : Mark
  equals : Mark

abbrev pub code_of : Mark → ℕ
code_of opening = 40
code_of closing = 41
code_of left = 123
code_of right = 125
code_of semicolon = 59
code_of comma = 44
code_of dot = 46
code_of equals = 61

-- a word, a mark, a space or a line feed
pub data Bit : Type 0 where
  a_word : Text → Bit
  a_mark : Mark → Bit
  space : Bit
  feed : Bit

abbrev pub text_of : List Bit → Text
text_of [] = []
text_of (a_word w ∷ bits) = w ++ text_of bits
text_of (a_mark m ∷ bits) = code_of m ∷ text_of bits
text_of (space ∷ bits) = 32 ∷ text_of bits
text_of (feed ∷ bits) = 10 ∷ text_of bits

-- its symbols, where the text begins at this place
abbrev pub placed : ℕ → List Bit → List Symbol
placed at [] = []
placed at (a_word w ∷ bits) = word w at ∷ placed (at + length w) bits
placed at (a_mark m ∷ bits) = sign (code_of m ∷ []) at ∷ placed (at + 1) bits
placed at (space ∷ bits) = placed (at + 1) bits
placed at (feed ∷ bits) = placed (at + 1) bits

-- Each word is one, and behind a word stands no other without a mark or a blank between them. `after` says that a word stands before.
abbrev pub Apart : Bool → List Bit → Type 0
Apart after [] = Unit {0}
Apart after (a_word w ∷ bits) = (after ≡ false) × (IsWord w × Apart true bits)
Apart after (a_mark m ∷ bits) = Apart false bits
Apart after (space ∷ bits) = Apart false bits
Apart after (feed ∷ bits) = Apart false bits

-- whether a word stands last
abbrev pub ends_word : Bool → List Bit → Bool
ends_word after [] = after
ends_word after (a_word w ∷ bits) = ends_word true bits
ends_word after (a_mark m ∷ bits) = ends_word false bits
ends_word after (space ∷ bits) = ends_word false bits
ends_word after (feed ∷ bits) = ends_word false bits

pub apart_join : (after : Bool) (xs ys : List Bit) → Apart after xs → Apart (ends_word after xs) ys → Apart after (xs ++ ys)
apart_join after [] ys is then_is = then_is
apart_join after (a_word w ∷ xs) ys is then_is = (is.0, (is.1.0, apart_join true xs ys is.1.1 then_is))
apart_join after (a_mark m ∷ xs) ys is then_is = apart_join false xs ys is then_is
apart_join after (space ∷ xs) ys is then_is = apart_join false xs ys is then_is
apart_join after (feed ∷ xs) ys is then_is = apart_join false xs ys is then_is

pub ends_join : (after : Bool) (xs ys : List Bit) → ends_word after (xs ++ ys) ≡ ends_word (ends_word after xs) ys
ends_join after [] ys = refl
ends_join after (a_word w ∷ xs) ys = ends_join true xs ys
ends_join after (a_mark m ∷ xs) ys = ends_join false xs ys
ends_join after (space ∷ xs) ys = ends_join false xs ys
ends_join after (feed ∷ xs) ys = ends_join false xs ys

pub text_join : (xs ys : List Bit) → text_of (xs ++ ys) ≡ text_of xs ++ text_of ys
text_join [] ys = refl
text_join (a_word w ∷ xs) ys = ap (λ t. w ++ t) (text_join xs ys) ∙ sym (append_assoc w (text_of xs) (text_of ys))
text_join (a_mark m ∷ xs) ys = ap (λ t. code_of m ∷ t) (text_join xs ys)
text_join (space ∷ xs) ys = ap (λ t. 32 ∷ t) (text_join xs ys)
text_join (feed ∷ xs) ys = ap (λ t. 10 ∷ t) (text_join xs ys)

moved : (bits : List Bit) (a b : ℕ) → a ≡ b → placed a bits ≡ placed b bits
moved bits a b e = ap (λ n. placed n bits) e

pub placed_join : (at : ℕ) (xs ys : List Bit) → placed at (xs ++ ys) ≡ placed at xs ++ placed (at + length (text_of xs)) ys
placed_join at [] ys = moved ys at (at + 0) (omega arith)
placed_join at (a_word w ∷ xs) ys =
    ap (λ s. word w at ∷ s) (placed_join (at + length w) xs ys ∙ ap (λ s. placed (at + length w) xs ++ s) (moved ys _ _ (omega (arith, length-append w (text_of xs)))))
placed_join at (a_mark m ∷ xs) ys =
    ap (λ s. sign (code_of m ∷ []) at ∷ s) (placed_join (at + 1) xs ys ∙ ap (λ s. placed (at + 1) xs ++ s) (moved ys _ _ (omega arith)))
placed_join at (space ∷ xs) ys = placed_join (at + 1) xs ys ∙ ap (λ s. placed (at + 1) xs ++ s) (moved ys _ _ (omega arith))
placed_join at (feed ∷ xs) ys = placed_join (at + 1) xs ys ∙ ap (λ s. placed (at + 1) xs ++ s) (moved ys _ _ (omega arith))
