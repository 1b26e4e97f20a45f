-- Java files: which table their bytes give, or why they are refused.
use Rattle.std.specs.Prelude.{◌≢◌, ◌≤◌, ℕ, List, length}
use Rattle.dj_names.specs.Texts.{Text}
use Rattle.dj_lexer.specs.Tokens.{TokenList}
use Rattle.dj_lexer.specs.Symbols.{symbols_of, greatest_depth}
use Rattle.dj_lexer.specs.Faults.{FirstFault}
use Rattle.dj_lexer.specs.declared.token.Dialect.TheVariants as dialect
use Rattle.dj_lexer.specs.declared.token.Token.{Token}
use Rattle.dj_lexer.specs.declared.token.LexFault.{LexFault}
use Rattle.dj_lexer.specs.declared.token.LexFault.TheVariants.{NotUtf8, BadCharacter, OpenComment, TooDeep}
use Rattle.dj_lexer.specs.declared.token.LexError.{LexError}
use Rattle.dj_lexer.specs.declared.token.LexError.TheVariants as errors
use Rattle.dj_lexer.specs.declared.token.TheConstants.{MAX_DEPTH}
use Rattle.dj_tree.specs.Trees.{Class}
use Rattle.dj_tree.specs.Spells.{SpellsJava}
use Rattle.dj_parser.specs.Refusals.{IsJavaRefusedAt}
use Rattle.dj_calculus.specs.JavaFiles.{ReadsAs, FirstJavaFault}
use Rattle.dj_calculus.specs.Tables.{Table}
use Rattle.dj_refusals.specs.JavaFaults.{java_fault_of}
use Rattle.dj_refusals.specs.declared.refusal.JavaFault.{JavaFault}
use Rattle.java_reader.specs.declared.error.JavaError.{JavaError}
use Rattle.java_reader.specs.declared.error.JavaError.TheVariants.{Lex, Syntax, Repeated, NoMemory}

-- the bytes have these tokens of Java, with no more brackets open at once than may be
pub record HasTokenList (bytes : Text) (tokens : List Token) : Type 0 where
  pub lexed : TokenList dialect.Java bytes tokens
  pub shallow : greatest_depth (symbols_of bytes tokens) ≤ MAX_DEPTH

-- the bytes are the Java file of this table
pub record IsJavaFile (bytes : Text) (t : Table) : Type 0 where
  pub reads : ReadsAs bytes t
  pub shallow : greatest_depth (symbols_of bytes reads.tokens) ≤ MAX_DEPTH

-- Why bytes are refused: they have no tokens; the tokens spell no classes; or the classes have a fault, of which the first is told. Each is looked at
-- only where none of those before it is the case. Want of memory is no reason.
pub data IsRefusedFor (bytes : Text) : JavaError → Type 0 where
  no_tokens : (fault : LexFault) → FirstFault dialect.Java bytes fault → IsRefusedFor bytes (Lex fault)
  no_classes : (tokens : List Token) (at : ℕ) → HasTokenList bytes tokens
      → IsJavaRefusedAt (symbols_of bytes tokens) (length bytes) at → IsRefusedFor bytes (Syntax at)
  at_fault : (tokens : List Token) (classes : List Class) (fault : JavaFault) (at : ℕ) → HasTokenList bytes tokens
      → SpellsJava (symbols_of bytes tokens) classes → FirstJavaFault classes (java_fault_of fault) at → IsRefusedFor bytes (Repeated fault at)

-- the error has its reason in the bytes, unless it is want of memory
abbrev pub HasReason : Text → JavaError → Type 0
HasReason bytes error = error ≢ NoMemory → IsRefusedFor bytes error

-- an error of the tokens as an error of the file
abbrev pub lex_error : LexError → JavaError
lex_error (errors.NotUtf8 at) = Lex (NotUtf8 at)
lex_error (errors.BadCharacter at) = Lex (BadCharacter at)
lex_error (errors.OpenComment at) = Lex (OpenComment at)
lex_error (errors.TooDeep at) = Lex (TooDeep at)
lex_error errors.NoMemory = NoMemory
