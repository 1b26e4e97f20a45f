-- The characters of a text, each by its code, and the symbols of a dialect.
use Rattle.std.specs.Prelude.{ℕ, Bool, false, ◌||◌, ◌==◌, List, [], ◌∷◌, length, codes, encode_utf8_all}
use Rattle.unicode_ident.specs.Ident.{is_xid_start, is_xid_continue}
use Rattle.dj_lexer.specs.declared.token.Dialect.{Dialect}
use Rattle.dj_lexer.specs.declared.token.Dialect.TheVariants.{Line, Java}

-- how many bytes the characters take in UTF-8
abbrev pub byte_len : List ℕ → ℕ
byte_len text = length (encode_utf8_all text)

-- a line feed, or a carriage return
abbrev pub ends_line : ℕ → Bool
ends_line c = (c == 10) || (c == 13)

-- a space, a tab, a form feed, or the end of a line
abbrev pub is_white_space : ℕ → Bool
is_white_space c = (c == 32) || (c == 9) || (c == 12) || ends_line c

-- `$` in the Java dialect
abbrev pub is_dollar : Dialect → ℕ → Bool
is_dollar Line c = false
is_dollar Java c = c == 36

-- a word may begin with the character, or go on with it; 95 is `_`
abbrev pub starts_word : Dialect → ℕ → Bool
starts_word dialect c = is_xid_start c || (c == 95) || is_dollar dialect c

abbrev pub continues_word : Dialect → ℕ → Bool
continues_word dialect c = is_xid_continue c || is_dollar dialect c

abbrev pub symbols : Dialect → List (List ℕ)
symbols Line = codes "{" ∷ codes "}" ∷ codes "(" ∷ codes ")" ∷ codes ";" ∷ codes "," ∷ codes "." ∷ codes "=" ∷ codes "!"
    ∷ codes "&" ∷ codes "&&" ∷ codes "|" ∷ codes "||" ∷ codes "->" ∷ codes "<->" ∷ []
symbols Java = codes "{" ∷ codes "}" ∷ codes "(" ∷ codes ")" ∷ codes ";" ∷ codes "," ∷ codes "." ∷ codes "=" ∷ []
