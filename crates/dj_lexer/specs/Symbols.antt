-- Tokens as the symbols of a grammar.
use Rattle.std.specs.Prelude.{◌≡◌, ℕ, ◌+◌, ◌-◌, ◌||◌, ◌==◌, if◌then◌else◌, Some, List, [], ◌∷◌, map, max, slice_range, encode_utf8_all}
use Rattle.dj_lexer.specs.Tokens.{Piece}
use Rattle.dj_lexer.specs.declared.token.Dialect.{Dialect}
use Rattle.dj_lexer.specs.declared.token.TokenKind.{TokenKind}
use Rattle.dj_lexer.specs.declared.token.Token.{Token}

-- a token by its kind, the bytes of its text and its byte offset
pub record Symbol : Type 0 where
  pub kind : TokenKind
  pub text : List ℕ
  pub at : ℕ

abbrev pub symbol_of : List ℕ → Token → Symbol
symbol_of bytes token = record { kind = token.kind; text = slice_range bytes token.from token.to; at = token.from }

abbrev pub symbols_of : List ℕ → List Token → List Symbol
symbols_of bytes tokens = map (symbol_of bytes) tokens

-- a symbol that some text of the dialect has as a token
abbrev pub IsToken : Dialect → Symbol → Type 0
IsToken dialect s = (text : List ℕ) × ((rest : List ℕ) × (Piece dialect (Some s.kind) text rest × (s.text ≡ encode_utf8_all text)))

-- how many brackets are open after a token of this text: `(` and `{` open one, and `)` and `}` close one where one is open
abbrev pub depth_after : ℕ → List ℕ → ℕ
depth_after depth (c ∷ []) =
    if (c == 40) || (c == 123) then depth + 1 else (if (c == 41) || (c == 125) then depth - 1 else depth)
depth_after depth _ = depth

-- the most brackets that are open at once, from a place on where this many are open
abbrev pub greatest_depth_from : ℕ → List Symbol → ℕ
greatest_depth_from depth [] = depth
greatest_depth_from depth (s ∷ rest) = max depth (greatest_depth_from (depth_after depth s.text) rest)

-- the most brackets that are open at once
abbrev pub greatest_depth : List Symbol → ℕ
greatest_depth symbols = greatest_depth_from 0 symbols
