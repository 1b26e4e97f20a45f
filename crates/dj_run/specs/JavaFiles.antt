-- Why the bytes of a Java file are refused.
use Rattle.std.specs.Prelude.{◌<◌, ◌≤◌, ℕ, List, length}
use Rattle.dj_lexer.specs.declared.token.LexFault.{LexFault}
use Rattle.dj_lexer.specs.declared.token.TheConstants.{MAX_LENGTH}
use Rattle.dj_refusals.specs.declared.refusal.JavaFault.{JavaFault}
use Rattle.dj_refusals.specs.declared.refusal.Refusal.{Refusal}
use Rattle.dj_refusals.specs.declared.refusal.Refusal.TheVariants as refusal
use Rattle.java_reader.specs.declared.error.JavaError.TheVariants as error
use Rattle.java_reader.specs.Files.{IsRefusedFor}

-- There are too many; they have no tokens; the tokens spell no classes; or the classes have a fault, of which the first is told. Each is
-- looked at only where none of those before it is the case.
pub data IsRefusedAsJava (bytes : List ℕ) : Refusal → Type 0 where
  too_long : MAX_LENGTH < length bytes → IsRefusedAsJava bytes refusal.TooLong
  no_tokens : (fault : LexFault) → length bytes ≤ MAX_LENGTH → IsRefusedFor bytes (error.Lex fault) → IsRefusedAsJava bytes (refusal.Lex fault)
  no_classes : (at : ℕ) → length bytes ≤ MAX_LENGTH → IsRefusedFor bytes (error.Syntax at) → IsRefusedAsJava bytes (refusal.Syntax at)
  repeated : (fault : JavaFault) (at : ℕ) → length bytes ≤ MAX_LENGTH → IsRefusedFor bytes (error.Repeated fault at)
      → IsRefusedAsJava bytes (refusal.Java fault at)
