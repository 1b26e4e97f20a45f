-- The two grammars, of product lines and of Java files: where their symbols are refused, and what they say.
use Rattle.std.proofs.Common.{◌≡◌, ℕ, ◌-◌, ◌^◌, ◌<◌, ◌≤◌, List, ◌++◌, length, arith}
use Rattle.std.specs.Prelude.{All, ◌↔◌, ◌≢◌, Result, Ok, Err, IfOk, IfErr, IsOk}
use Rattle.std.proofs.lemmas.List.{length-map}
use Rattle.std.specs.Str.{IsUtf8}
use Rattle.dj_lexer.specs.Symbols.{Symbol, symbols_of, symbol_of}
use Rattle.dj_lexer.specs.Tokens.{TokenList}
use Rattle.dj_lexer.specs.declared.token.Token.{Token}
use Rattle.dj_lexer.specs.declared.token.Dialect.TheVariants.{Line, Java}
use Rattle.dj_lexer.specs.declared.token.TheConstants.{MAX_LENGTH}
use Rattle.dj_tree.specs.Trees.{Source, Class}
use Rattle.dj_tree.specs.Spells.{Spells, SpellsJava, Viable, ViableJava}
use Rattle.dj_reader.specs.Reading.{got, fault}
use Rattle.dj_declarations.specs.Laws.{line_reading, classes_reading, SourcesAreRead, ClassesAreRead}
use Rattle.dj_parser.specs.declared.error.ParseError.{ParseError}
use Rattle.dj_parser.specs.declared.error.ParseError.TheVariants.{Syntax, NoMemory}
use Rattle.dj_parser.specs.Refusals.{IsLine, IsJava, IsLineRefusedAt, IsJavaRefusedAt, HasCause, place_of}
use Rattle.dj_parser.specs.Said.{said_each, said_source, said_class}
use Rattle.dj_parser.proofs.Refusing as refusing
use Rattle.dj_parser.proofs.SaidLemmas.{IsSaid}
use Rattle.dj_parser.proofs.Spelled.{spelled_source, spelled_java}
use Rattle.dj_parser.proofs.TokenTexts.{tokens_have_texts}

line_opens : (front more : List Symbol) (x : Source) → Spells (front ++ more) x → Viable front
line_opens front more x spelled = record { rest = more; source = x; spelled = spelled }

line_closes : (front : List Symbol) → Viable front → (more : List Symbol) × ((x : Source) × Spells (front ++ more) x)
line_closes front viable = (viable.rest, (viable.source, viable.spelled))

java_opens : (front more : List Symbol) (x : List Class) → SpellsJava (front ++ more) x → ViableJava front
java_opens front more x spelled = record { rest = more; classes = x; spelled = spelled }

java_closes : (front : List Symbol) → ViableJava front → (more : List Symbol) × ((x : List Class) × SpellsJava (front ++ more) x)
java_closes front viable = (viable.rest, (viable.classes, viable.spelled))

-- ---- what is read

pub line_whole : SourcesAreRead → (symbols rest : List Symbol) (x : Source) → line_reading symbols ≡ got x rest → Spells symbols x
line_whole read symbols rest x e = refusing.read_whole Spells Viable line_opens line_closes read symbols rest x e

pub line_refused : SourcesAreRead → (bytes : List ℕ) (end : ℕ) (symbols : List Symbol) (tokens : List Token) → line_reading symbols ≡ fault (symbols_of bytes tokens)
    → IsLineRefusedAt symbols end (place_of tokens end)
line_refused read bytes end symbols tokens e = refusing.refused_at_fault Spells Viable line_opens line_closes read bytes end symbols tokens e

pub java_whole : ClassesAreRead → (symbols rest : List Symbol) (x : List Class) → classes_reading symbols ≡ got x rest → SpellsJava symbols x
java_whole read symbols rest x e = refusing.read_whole SpellsJava ViableJava java_opens java_closes read symbols rest x e

pub java_refused : ClassesAreRead → (bytes : List ℕ) (end : ℕ) (symbols : List Symbol) (tokens : List Token) → classes_reading symbols ≡ fault (symbols_of bytes tokens)
    → IsJavaRefusedAt symbols end (place_of tokens end)
java_refused read bytes end symbols tokens e = refusing.refused_at_fault SpellsJava ViableJava java_opens java_closes read bytes end symbols tokens e

-- ---- where symbols are refused, for clients of this crate

pub one_line_place : (symbols : List Symbol) (end a b : ℕ) → IsLineRefusedAt symbols end a → IsLineRefusedAt symbols end b → a ≡ b
one_line_place symbols end a b first second = refusing.one_place Spells Viable line_opens line_closes symbols end a b first second

pub no_line_refused : (symbols : List Symbol) (end at : ℕ) → IsLineRefusedAt symbols end at → IsLine symbols → ⊥
no_line_refused symbols end at refused whole = refusing.not_whole Spells Viable line_opens line_closes symbols end at refused whole

-- ---- answers

module _ {Y : Type 0} (symbols : List Symbol) (end : ℕ) (result : Result Y ParseError) where
  pub line_given : IfOk result (λ _. IsLine symbols) → IfErr result (HasCause (IsLineRefusedAt symbols end)) → result ≢ Err NoMemory → IsOk result ↔ IsLine symbols
  line_given = refusing.given Spells Viable line_opens line_closes symbols end result

  pub line_syntax : IfOk result (λ _. IsLine symbols) → IfErr result (HasCause (IsLineRefusedAt symbols end)) → (at : ℕ) → result ≢ Err NoMemory
      → (result ≡ Err (Syntax at)) ↔ IsLineRefusedAt symbols end at
  line_syntax = refusing.refused Spells Viable line_opens line_closes symbols end result

  pub java_given : IfOk result (λ _. IsJava symbols) → IfErr result (HasCause (IsJavaRefusedAt symbols end)) → result ≢ Err NoMemory → IsOk result ↔ IsJava symbols
  java_given = refusing.given SpellsJava ViableJava java_opens java_closes symbols end result

  pub java_syntax : IfOk result (λ _. IsJava symbols) → IfErr result (HasCause (IsJavaRefusedAt symbols end)) → (at : ℕ) → result ≢ Err NoMemory
      → (result ≡ Err (Syntax at)) ↔ IsJavaRefusedAt symbols end at
  java_syntax = refusing.refused SpellsJava ViableJava java_opens java_closes symbols end result

-- ---- texts and room

few_texts : (bytes : List ℕ) (tokens : List Token) (texts : List (List ℕ)) → IsSaid (symbols_of bytes tokens) texts → length tokens ≤ length bytes → length bytes ≤ MAX_LENGTH → length texts < 2 ^ 32 - 1
few_texts bytes tokens texts said few short = omega (arith, said.few, length-map tokens (symbol_of bytes))

module _ (bytes : List ℕ) (tokens : List Token) (few : length tokens ≤ length bytes) (short : length bytes ≤ MAX_LENGTH) where
  pub line_room : (x : Source) → Spells (symbols_of bytes tokens) x → length (said_source x) < 2 ^ 32 - 1
  line_room x spelled = few_texts bytes tokens (said_source x) (spelled_source (symbols_of bytes tokens) x spelled) few short

  pub java_room : (x : List Class) → SpellsJava (symbols_of bytes tokens) x → length (said_each said_class x) < 2 ^ 32 - 1
  java_room x spelled = few_texts bytes tokens (said_each said_class x) (spelled_java Java (symbols_of bytes tokens) x spelled) few short

pub line_texts : (bytes : List ℕ) (tokens : List Token) (x : Source) → TokenList Line bytes tokens → Spells (symbols_of bytes tokens) x → All IsUtf8 (said_source x)
line_texts bytes tokens x lexed spelled = (spelled_source (symbols_of bytes tokens) x spelled).utf8 (tokens_have_texts Line bytes tokens lexed)

pub java_texts : (bytes : List ℕ) (tokens : List Token) (x : List Class) → TokenList Java bytes tokens → SpellsJava (symbols_of bytes tokens) x → All IsUtf8 (said_each said_class x)
java_texts bytes tokens x lexed spelled = (spelled_java Java (symbols_of bytes tokens) x spelled).utf8 (tokens_have_texts Java bytes tokens lexed)

-- what an answer spells is a whole
pub line_known : {Y : Type 0} (symbols : List Symbol) (plain_of : Y → Source) (result : Result Y ParseError) → IfOk result (λ y. Spells symbols (plain_of y)) → IfOk result (λ _. IsLine symbols)
line_known symbols plain_of (Ok y) spelled = (plain_of y, spelled)
line_known symbols plain_of (Err error) spelled = tt

pub java_known : {Y : Type 0} (symbols : List Symbol) (plain_of : Y → List Class) (result : Result Y ParseError) → IfOk result (λ y. SpellsJava symbols (plain_of y)) → IfOk result (λ _. IsJava symbols)
java_known symbols plain_of (Ok y) spelled = (plain_of y, spelled)
java_known symbols plain_of (Err error) spelled = tt
