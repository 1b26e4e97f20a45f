-- Tokens by their places.
use Rattle.std.specs.Prelude.{◌≡◌, ℕ, Some, List, ◌++◌, Contains}
use Rattle.std.specs.Str.{chars}
use Rattle.dj_lexer.specs.Tokens.{Piece, TokensFrom, TokenList}
use Rattle.dj_lexer.specs.Symbols.{symbol_of}
use Rattle.dj_lexer.specs.declared.token.Dialect.{Dialect}
use Rattle.dj_lexer.specs.declared.token.TokenKind.{TokenKind}
use Rattle.dj_lexer.specs.declared.token.Token.{Token}

-- the bytes have tokens in one of the two dialects, and this is the text of the one that begins at the offset
pub record IsTokenAt (bytes : List ℕ) (at : ℕ) (text : List ℕ) : Type 0 where
  pub dialect : Dialect
  pub tokens : List Token
  pub are_tokens : TokenList dialect bytes tokens
  pub token : Token
  pub among : Contains tokens token
  pub begins : token.from ≡ at
  pub says : text ≡ (symbol_of bytes token).text

-- a token stands at the front of a text that has tokens behind it
pub record BeginsWithToken (text : List ℕ) : Type 0 where
  pub dialect : Dialect
  pub kind : TokenKind
  pub piece : List ℕ
  pub rest : List ℕ
  pub next : ℕ
  pub more : List Token
  pub splits : chars text ≡ piece ++ rest
  pub stands : Piece dialect (Some kind) piece rest
  pub tokens : TokensFrom dialect next rest more

-- no token of the dialect stands at the front of the characters
abbrev pub BeginsNoToken : Dialect → List ℕ → Type 0
BeginsNoToken dialect text = (kind : TokenKind) (piece rest : List ℕ) → Piece dialect (Some kind) piece rest → ¬ (text ≡ piece ++ rest)
