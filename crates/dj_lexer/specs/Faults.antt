-- The first fault of bytes, from the left.
use Rattle.std.specs.Prelude.{◌≢◌, ℕ, ◌+◌, ◌<◌, ◌≤◌, Option, Some, None, List, ◌∷◌, ◌++◌, codes}
use Rattle.std.specs.Str.{IsUtf8, IsValidUpTo, chars}
use Rattle.dj_lexer.specs.Alphabet.{byte_len}
use Rattle.dj_lexer.specs.Tokens.{HasNoClose, Piece, TokenList}
use Rattle.dj_lexer.specs.Symbols.{symbols_of, depth_after, greatest_depth}
use Rattle.dj_lexer.specs.declared.token.Dialect.{Dialect}
use Rattle.dj_lexer.specs.declared.token.TokenKind.{TokenKind}
use Rattle.dj_lexer.specs.declared.token.Token.{Token}
use Rattle.dj_lexer.specs.declared.token.LexFault.{LexFault}
use Rattle.dj_lexer.specs.declared.token.LexFault.TheVariants.{NotUtf8, BadCharacter, OpenComment, TooDeep}
use Rattle.dj_lexer.specs.declared.token.LexError.{LexError}
use Rattle.dj_lexer.specs.declared.token.LexError.TheVariants as errors
use Rattle.dj_lexer.specs.declared.token.TheConstants.{MAX_DEPTH}

-- no token, white space or comment begins the text, and no open comment
pub record BeginsNothing (dialect : Dialect) (text : List ℕ) : Type 0 where
  pub no_piece : (kind : Option TokenKind) (piece rest : List ℕ) → Piece dialect kind piece rest → text ≢ piece ++ rest
  pub no_comment : (body : List ℕ) → text ≢ codes "/*" ++ body

-- the fault that is met first in a text that begins at the byte offset `at`, where `depth` brackets are open
pub data FaultFrom (dialect : Dialect) : ℕ → ℕ → List ℕ → LexFault → Type 0 where
  bad_character : (depth at c : ℕ) (rest : List ℕ) → BeginsNothing dialect (c ∷ rest)
      → FaultFrom dialect depth at (c ∷ rest) (BadCharacter at)
  open_comment : (depth at : ℕ) (body : List ℕ) → HasNoClose body
      → FaultFrom dialect depth at (codes "/*" ++ body) (OpenComment at)
  too_deep : (depth at : ℕ) (kind : TokenKind) (piece rest : List ℕ) → Piece dialect (Some kind) piece rest
      → MAX_DEPTH < depth_after depth piece → FaultFrom dialect depth at (piece ++ rest) (TooDeep at)
  skipped : (depth at : ℕ) (piece rest : List ℕ) (fault : LexFault) → Piece dialect None piece rest
      → FaultFrom dialect depth (at + byte_len piece) rest fault → FaultFrom dialect depth at (piece ++ rest) fault
  token : (depth at : ℕ) (kind : TokenKind) (piece rest : List ℕ) (fault : LexFault) → Piece dialect (Some kind) piece rest
      → depth_after depth piece ≤ MAX_DEPTH → FaultFrom dialect (depth_after depth piece) (at + byte_len piece) rest fault
      → FaultFrom dialect depth at (piece ++ rest) fault

-- bytes that aren't UTF-8 are at fault after their longest front that is; other bytes where a character begins nothing,
-- where a comment isn't closed, or at the bracket that is one too many
abbrev pub FirstFault : Dialect → List ℕ → LexFault → Type 0
FirstFault dialect bytes (NotUtf8 at) = ¬ (IsUtf8 bytes) × IsValidUpTo bytes at
FirstFault dialect bytes (BadCharacter at) = IsUtf8 bytes × FaultFrom dialect 0 0 (chars bytes) (BadCharacter at)
FirstFault dialect bytes (OpenComment at) = IsUtf8 bytes × FaultFrom dialect 0 0 (chars bytes) (OpenComment at)
FirstFault dialect bytes (TooDeep at) = IsUtf8 bytes × FaultFrom dialect 0 0 (chars bytes) (TooDeep at)

-- a fault as an error
abbrev pub error_of : LexFault → LexError
error_of (NotUtf8 at) = errors.NotUtf8 at
error_of (BadCharacter at) = errors.BadCharacter at
error_of (OpenComment at) = errors.OpenComment at
error_of (TooDeep at) = errors.TooDeep at

-- why there are no tokens; nothing is said of want of memory
abbrev pub IsRefusedBy : Dialect → List ℕ → LexError → Type 0
IsRefusedBy dialect bytes (errors.NotUtf8 at) = FirstFault dialect bytes (NotUtf8 at)
IsRefusedBy dialect bytes (errors.BadCharacter at) = FirstFault dialect bytes (BadCharacter at)
IsRefusedBy dialect bytes (errors.OpenComment at) = FirstFault dialect bytes (OpenComment at)
IsRefusedBy dialect bytes (errors.TooDeep at) = FirstFault dialect bytes (TooDeep at)
IsRefusedBy dialect bytes errors.NoMemory = Unit {0}

-- the bytes have tokens, and no more brackets are open at once than may be
abbrev pub HasTokens : Dialect → List ℕ → Type 0
HasTokens dialect bytes = (tokens : List Token) × TokenList dialect bytes tokens × (greatest_depth (symbols_of bytes tokens) ≤ MAX_DEPTH)
