-- What is found at the front of a text.
use Rattle.std.specs.Prelude.{◌≡◌, ◌≢◌, ℕ, Bool, Option, Some, None, List, ◌∷◌, ◌++◌, codes, Contains}
use Rattle.std.specs.List.{AllPass}
use Rattle.std.specs.Str.{IsUtf8, chars}
use Rattle.dj_lexer.specs.Tokens.{FirstFails, HasNoClose, Piece}
use Rattle.dj_lexer.specs.Faults.{BeginsNothing}
use Rattle.dj_lexer.specs.Alphabet.{symbols}
use Rattle.dj_lexer.specs.declared.token.Dialect.{Dialect}
use Rattle.dj_lexer.specs.declared.token.TokenKind.{TokenKind}
use Rattle.dj_lexer.specs.declared.front.Front.{Front}
use Rattle.dj_lexer.specs.declared.front.Front.TheVariants.{Skipped, Token, BadCharacter, OpenComment}

-- a piece of the kind stands at the front of the text, and then the rest
pub record HasPiece (dialect : Dialect) (kind : Option TokenKind) (text rest : List ℕ) : Type 0 where
  pub piece : List ℕ
  pub stands : Piece dialect kind piece (chars rest)
  pub splits : chars text ≡ piece ++ chars rest
  pub utf8 : IsUtf8 rest

-- nothing begins with the first character of the text
pub record HasBadCharacter (dialect : Dialect) (text : List ℕ) : Type 0 where
  pub first : ℕ
  pub rest : List ℕ
  pub splits : chars text ≡ first ∷ rest
  pub nothing : BeginsNothing dialect (first ∷ rest)

-- a comment that isn't closed begins the text
pub record HasOpenComment (text : List ℕ) : Type 0 where
  pub body : List ℕ
  pub splits : chars text ≡ codes "/*" ++ body
  pub open_ : HasNoClose body

abbrev pub IsFront : Dialect → List ℕ → Front → Type 0
IsFront dialect text (Skipped rest) = HasPiece dialect None text rest.now
IsFront dialect text (Token kind rest) = HasPiece dialect (Some kind) text rest.now
IsFront dialect text BadCharacter = HasBadCharacter dialect text
IsFront dialect text OpenComment = HasOpenComment text

-- no comment begins the characters
abbrev pub BeginsNoComment : List ℕ → Type 0
BeginsNoComment text = (rest : List ℕ) → (text ≢ codes "//" ++ rest) × (text ≢ codes "/*" ++ rest)

-- no symbol of the dialect begins the characters
abbrev pub BeginsNoSymbol : Dialect → List ℕ → Type 0
BeginsNoSymbol dialect text = (symbol rest : List ℕ) → Contains (symbols dialect) symbol → text ≢ symbol ++ rest

-- `run` and then `rest`: the longest front whose characters pass the test
pub record SplitsAfterRun (test : ℕ → Bool) (text rest : List ℕ) : Type 0 where
  pub run : List ℕ
  pub passes : AllPass test run
  pub stops : FirstFails test (chars rest)
  pub splits : chars text ≡ run ++ chars rest
  pub utf8 : IsUtf8 rest
