-- What a text is made of.
use Rattle.std.specs.Prelude.{◌≡◌, ◌≢◌, ℕ, ◌+◌, ◌≤◌, Bool, true, false, not, Option, Some, None, List, [], ◌∷◌, ◌++◌, length, codes, Contains}
use Rattle.std.specs.List.{AllPass}
use Rattle.std.specs.Str.{IsUtf8, chars}
use Rattle.std.specs.Str.Iter.{HasSubslice}
use Rattle.dj_lexer.specs.Alphabet.{byte_len, ends_line, is_white_space, starts_word, continues_word, symbols}
use Rattle.dj_lexer.specs.declared.token.Dialect.{Dialect}
use Rattle.dj_lexer.specs.declared.token.TokenKind.{TokenKind}
use Rattle.dj_lexer.specs.declared.token.TokenKind.TheVariants.{Word, Symbol}
use Rattle.dj_lexer.specs.declared.token.Token.{Token}

-- the text is at its end, or its first character fails the test
abbrev pub FirstFails : (ℕ → Bool) → List ℕ → Type 0
FirstFails test [] = Unit {0}
FirstFails test (c ∷ rest) = test c ≡ false

-- `*/` stands nowhere in the text
abbrev pub HasNoClose : List ℕ → Type 0
HasNoClose text = ¬ (HasSubslice text (codes "*/"))

-- `piece` and then `rest`: at the front of a text stands the piece, the longest that can stand there. It is a token of
-- the kind, or white space or a comment where the kind is `None`.
pub data Piece (dialect : Dialect) : Option TokenKind → List ℕ → List ℕ → Type 0 where
  white_space : (c : ℕ) (rest : List ℕ) → is_white_space c ≡ true → Piece dialect None (c ∷ []) rest
  line_comment : (body rest : List ℕ) → AllPass (λ c. not (ends_line c)) body → FirstFails (λ c. not (ends_line c)) rest
      → Piece dialect None (codes "//" ++ body) rest
  block_comment : (body rest : List ℕ) → HasNoClose body → Piece dialect None (codes "/*" ++ (body ++ codes "*/")) rest
  word : (first : ℕ) (more rest : List ℕ) → starts_word dialect first ≡ true → AllPass (continues_word dialect) more
      → FirstFails (continues_word dialect) rest → first ∷ more ≢ codes "_" → Piece dialect (Some Word) (first ∷ more) rest
  symbol : (text rest : List ℕ) → Contains (symbols dialect) text
      → ((other after : List ℕ) → Contains (symbols dialect) other → text ++ rest ≡ other ++ after → length other ≤ length text)
      → Piece dialect (Some Symbol) text rest

-- the tokens of a text that begins at the byte offset `at`, in order
pub data TokensFrom (dialect : Dialect) : ℕ → List ℕ → List Token → Type 0 where
  end : (at : ℕ) → TokensFrom dialect at [] []
  skipped : (at : ℕ) (piece rest : List ℕ) (tokens : List Token) → Piece dialect None piece rest
      → TokensFrom dialect (at + byte_len piece) rest tokens → TokensFrom dialect at (piece ++ rest) tokens
  token : (at : ℕ) (kind : TokenKind) (piece rest : List ℕ) (tokens : List Token) → Piece dialect (Some kind) piece rest
      → TokensFrom dialect (at + byte_len piece) rest tokens
      → TokensFrom dialect at (piece ++ rest) (record { kind = kind; from = at; to = at + byte_len piece } ∷ tokens)

-- the bytes are UTF-8, and these are their tokens
abbrev pub TokenList : Dialect → List ℕ → List Token → Type 0
TokenList dialect bytes tokens = IsUtf8 bytes × TokensFrom dialect 0 (chars bytes) tokens
