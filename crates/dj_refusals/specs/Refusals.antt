-- Where a refusal stands, and what can be said of it.
use Rattle.std.specs.Prelude.{◌≡◌, ℕ, ◌≤◌, Bool, true, false, List, length}
use Rattle.dj_lexer.specs.TokensAt.{IsTokenAt}
use Rattle.dj_lexer.specs.declared.token.LexFault.{LexFault}
use Rattle.dj_lexer.specs.declared.token.LexFault.TheVariants.{NotUtf8, BadCharacter, OpenComment, TooDeep}
use Rattle.dj_faults.specs.declared.fault.LineFault.{LineFault}
use Rattle.dj_faults.specs.declared.fault.LineFault.TheVariants.{TooManyFeatures, OriginalOutside}
use Rattle.dj_refusals.specs.declared.refusal.JavaFault.{JavaFault}
use Rattle.dj_refusals.specs.declared.refusal.Refusal.{Refusal}
use Rattle.dj_refusals.specs.declared.refusal.Refusal.TheVariants.{TooLong, Lex, Syntax, Line, Java}

-- the place of a fault of the tokens
abbrev pub lex_place : LexFault → ℕ
lex_place (NotUtf8 at) = at
lex_place (BadCharacter at) = at
lex_place (OpenComment at) = at
lex_place (TooDeep at) = at

-- whether what is said of a fault of a line ends with a name
abbrev pub takes_name : LineFault → Bool
takes_name TooManyFeatures = false
takes_name OriginalOutside = false
takes_name fault = true

-- the place stands in the bytes
abbrev pub IsWithin : List ℕ → Refusal → Type 0
IsWithin bytes TooLong = Unit {0}
IsWithin bytes (Lex fault) = lex_place fault ≤ length bytes
IsWithin bytes (Syntax at) = at ≤ length bytes
IsWithin bytes (Line fault at) = at ≤ length bytes
IsWithin bytes (Java fault at) = at ≤ length bytes

-- where a name is said, it is a token of the bytes, in one of the two dialects, that begins at the place
abbrev pub IsNamed : List ℕ → Refusal → Type 0
IsNamed bytes TooLong = Unit {0}
IsNamed bytes (Lex fault) = Unit {0}
IsNamed bytes (Syntax at) = Unit {0}
IsNamed bytes (Line fault at) = takes_name fault ≡ true → (name : List ℕ) × IsTokenAt bytes at name
IsNamed bytes (Java fault at) = (name : List ℕ) × IsTokenAt bytes at name
