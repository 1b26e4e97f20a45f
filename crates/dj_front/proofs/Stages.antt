-- What each stage of reading gives.
use Rattle.std.proofs.Common.{◌≡◌, ◌≢◌, ◌↔◌, ◌≤◌, ℕ, List, length, refl, Result, Ok, Err, MatchResult}
use Rattle.std.specs.Result.{IsOk}
use Rattle.dj_lexer.specs.Faults.{FirstFault, error_of}
use Rattle.dj_lexer.specs.declared.token.Dialect.TheVariants as dialect
use Rattle.dj_lexer.specs.declared.token.LexFault.{LexFault}
use Rattle.dj_lexer.specs.declared.token.LexFault.TheVariants as fault
use Rattle.dj_lexer.specs.declared.token.LexError.{LexError}
use Rattle.dj_lexer.specs.declared.token.LexError.TheVariants.{NotUtf8, BadCharacter, OpenComment, TooDeep, NoMemory}
use Rattle.dj_lexer.specs.declared.token.TheConstants.{MAX_LENGTH}
use Rattle.dj_tree.specs.Trees.{Source}
use Rattle.dj_line.specs.Lines.{plain_line}
use Rattle.dj_line.specs.declared.line.Line.{Line}
use Rattle.dj_front.specs.Files.{IsLineFile, no_tokens, IsFileError, lex_error}
use Rattle.dj_front.specs.Laws.{NoRefusedLine}
use Rattle.dj_front.specs.declared.reading.FileError.{FileError}
use Rattle.dj_front.specs.declared.reading.FileError.TheVariants as file

-- a fault of the tokens is told for its reason
pub lex_refused : (bytes : List ℕ) (error : LexError) → length bytes ≤ MAX_LENGTH
    → ((f : LexFault) → error ≢ NoMemory → (error ≡ error_of f) ↔ FirstFault dialect.Line bytes f) → IsFileError bytes (lex_error error)
lex_refused bytes (NotUtf8 at) short refused = no_tokens (fault.NotUtf8 at) short ((refused (fault.NotUtf8 at) (λ e. cc)).0 refl)
lex_refused bytes (BadCharacter at) short refused = no_tokens (fault.BadCharacter at) short ((refused (fault.BadCharacter at) (λ e. cc)).0 refl)
lex_refused bytes (OpenComment at) short refused = no_tokens (fault.OpenComment at) short ((refused (fault.OpenComment at) (λ e. cc)).0 refl)
lex_refused bytes (TooDeep at) short refused = no_tokens (fault.TooDeep at) short ((refused (fault.TooDeep at) (λ e. cc)).0 refl)
lex_refused bytes NoMemory short refused = tt

-- a line comes exactly where the bytes say one
pub given_of : (bytes : List ℕ) (r : Result Line FileError) → NoRefusedLine → MatchResult r (λ line. IsLineFile bytes (plain_line line)) (IsFileError bytes)
    → r ≢ Err file.NoMemory → IsOk r ↔ ((source : Source) × IsLineFile bytes source)
given_of bytes (Ok line) no_refused is other = (λ _. (plain_line line, is), λ _. refl)
given_of bytes (Err (file.Refused refusal)) no_refused is other = (λ ok. absurd cc, λ (source, said). absurd (no_refused bytes source refusal said is))
given_of bytes (Err file.NoMemory) no_refused is other = absurd (other refl)
