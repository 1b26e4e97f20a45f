-- Files of product lines: what their bytes say, or why they are refused.
use Rattle.std.specs.Prelude.{◌<◌, ◌≤◌, ℕ, List, length}
use Rattle.dj_lexer.specs.Tokens.{TokenList}
use Rattle.dj_lexer.specs.Symbols.{symbols_of, greatest_depth}
use Rattle.dj_lexer.specs.Faults.{FirstFault}
use Rattle.dj_lexer.specs.declared.token.Dialect.TheVariants as dialect
use Rattle.dj_lexer.specs.declared.token.Token.{Token}
use Rattle.dj_lexer.specs.declared.token.LexFault.{LexFault}
use Rattle.dj_lexer.specs.declared.token.LexFault.TheVariants.{NotUtf8, BadCharacter, OpenComment, TooDeep}
use Rattle.dj_lexer.specs.declared.token.LexError.{LexError}
use Rattle.dj_lexer.specs.declared.token.LexError.TheVariants as errors
use Rattle.dj_lexer.specs.declared.token.TheConstants.{MAX_LENGTH, MAX_DEPTH}
use Rattle.dj_tree.specs.Trees.{Source}
use Rattle.dj_tree.specs.Spells.{Spells}
use Rattle.dj_parser.specs.Refusals.{IsLineRefusedAt}
use Rattle.dj_calculus.specs.Accepted.{FirstFault as FirstLineFault, IsAccepted}
use Rattle.dj_faults.specs.LineFaults.{fault_of}
use Rattle.dj_faults.specs.declared.fault.LineFault.{LineFault}
use Rattle.dj_refusals.specs.declared.refusal.Refusal.{Refusal}
use Rattle.dj_refusals.specs.declared.refusal.Refusal.TheVariants.{TooLong, Lex, Syntax, Line}
use Rattle.dj_front.specs.declared.reading.FileError.{FileError}
use Rattle.dj_front.specs.declared.reading.FileError.TheVariants.{Refused, NoMemory}

-- the bytes of a file have these tokens, with no more brackets open at once than may be
pub record HasTokenList (bytes : List ℕ) (tokens : List Token) : Type 0 where
  pub short : length bytes ≤ MAX_LENGTH
  pub lexed : TokenList dialect.Line bytes tokens
  pub shallow : greatest_depth (symbols_of bytes tokens) ≤ MAX_DEPTH

-- the bytes say a product line without faults
pub record IsLineFile (bytes : List ℕ) (source : Source) : Type 0 where
  pub tokens : List Token
  pub has : HasTokenList bytes tokens
  pub spelled : Spells (symbols_of bytes tokens) source
  pub accepted : IsAccepted source

-- Why bytes are refused: there are too many; they have no tokens; the tokens spell nothing; or what they spell has a fault. Each
-- is looked at only where none of those before it is the case.
pub data IsRefusedFor (bytes : List ℕ) : Refusal → Type 0 where
  too_long : MAX_LENGTH < length bytes → IsRefusedFor bytes TooLong
  no_tokens : (fault : LexFault) → length bytes ≤ MAX_LENGTH → FirstFault dialect.Line bytes fault → IsRefusedFor bytes (Lex fault)
  no_source : (tokens : List Token) (at : ℕ) → HasTokenList bytes tokens
      → IsLineRefusedAt (symbols_of bytes tokens) (length bytes) at → IsRefusedFor bytes (Syntax at)
  at_fault : (tokens : List Token) (source : Source) (fault : LineFault) (at : ℕ) → HasTokenList bytes tokens
      → Spells (symbols_of bytes tokens) source → FirstLineFault source (fault_of fault) at → IsRefusedFor bytes (Line fault at)

-- the error has its cause in the bytes
abbrev pub IsFileError : List ℕ → FileError → Type 0
IsFileError bytes (Refused refusal) = IsRefusedFor bytes refusal
IsFileError bytes NoMemory = Unit {0}

-- an error of the tokens as an error of the file
abbrev pub lex_error : LexError → FileError
lex_error (errors.NotUtf8 at) = Refused (Lex (NotUtf8 at))
lex_error (errors.BadCharacter at) = Refused (Lex (BadCharacter at))
lex_error (errors.OpenComment at) = Refused (Lex (OpenComment at))
lex_error (errors.TooDeep at) = Refused (Lex (TooDeep at))
lex_error errors.NoMemory = NoMemory
