-- Why a file has no tokens, and what an answer says of the bytes.
use Rattle.std.proofs.Common.{◌≡◌, ◌≢◌, ◌↔◌, refl, ap, subst, Result, Ok, Err, MatchResult}
use Rattle.std.specs.Result.{IsOk}
use Rattle.dj_names.specs.Texts.{Text}
use Rattle.dj_lexer.specs.Faults.{FirstFault, error_of}
use Rattle.dj_lexer.specs.declared.token.Dialect.TheVariants as dialect
use Rattle.dj_lexer.specs.declared.token.LexFault.{LexFault}
use Rattle.dj_lexer.specs.declared.token.LexFault.TheVariants as fault
use Rattle.dj_lexer.specs.declared.token.LexError.{LexError}
use Rattle.dj_lexer.specs.declared.token.LexError.TheVariants.{NotUtf8, BadCharacter, OpenComment, TooDeep, NoMemory}
use Rattle.dj_calculus.specs.Tables.{Table as PlainTable}
use Rattle.ifj_table.specs.Tables.{plain_table}
use Rattle.ifj_table.specs.declared.table.Table.{Table}
use Rattle.java_reader.specs.Files.{IsJavaFile, IsRefusedFor, HasReason, no_tokens, lex_error}
use Rattle.java_reader.specs.Laws.{OneRefusal, NoRefusedTable}
use Rattle.java_reader.specs.declared.error.JavaError.{JavaError}
use Rattle.java_reader.specs.declared.error.JavaError.TheVariants as file

-- a fault of the tokens is told for its reason
pub lex_refused : (bytes : Text) (error : LexError) → ((f : LexFault) → error ≢ NoMemory → (error ≡ error_of f) ↔ FirstFault dialect.Java bytes f) → HasReason bytes (lex_error error)
lex_refused bytes (NotUtf8 at) refused = λ _. no_tokens (fault.NotUtf8 at) ((refused (fault.NotUtf8 at) (λ e. cc)).0 refl)
lex_refused bytes (BadCharacter at) refused = λ _. no_tokens (fault.BadCharacter at) ((refused (fault.BadCharacter at) (λ e. cc)).0 refl)
lex_refused bytes (OpenComment at) refused = λ _. no_tokens (fault.OpenComment at) ((refused (fault.OpenComment at) (λ e. cc)).0 refl)
lex_refused bytes (TooDeep at) refused = λ _. no_tokens (fault.TooDeep at) ((refused (fault.TooDeep at) (λ e. cc)).0 refl)
lex_refused bytes NoMemory refused = λ some. absurd (some refl)

module _ (bytes : Text) (no_refused : NoRefusedTable) (once : OneRefusal) where
  abbrev pub Answer : Result Table JavaError → Type 0
  Answer result = MatchResult result (λ table. IsJavaFile bytes (plain_table table)) (HasReason bytes)

  -- a table comes exactly where the bytes are the file of one
  pub given : (r : Result Table JavaError) → Answer r → r ≢ Err file.NoMemory → IsOk r ↔ ((table : PlainTable) × IsJavaFile bytes table)
  given (Ok table) is some = (λ _. (plain_table table, is), λ _. refl)
  given (Err error) is some = (λ ok. absurd cc, λ (table, read). absurd (no_refused bytes table error read (is (λ e. some (ap Err e)))))

  -- a reason comes exactly where the bytes are refused for it
  pub reason : (r : Result Table JavaError) → Answer r → (error : JavaError) → r ≢ Err file.NoMemory → (r ≡ Err error) ↔ IsRefusedFor bytes error
  reason (Ok table) is error some = (λ e. absurd cc, λ refused. absurd (no_refused bytes (plain_table table) error is refused))
  reason (Err other) is error some =
      let here = is (λ e. some (ap Err e)) in
      (λ e. let same : other ≡ error = cc in subst (IsRefusedFor bytes) same here, λ refused. ap Err (once bytes other error here refused))
