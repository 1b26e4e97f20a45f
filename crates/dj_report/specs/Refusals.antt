-- What is said of a file that is refused.
use Rattle.std.specs.Prelude.{◌≡◌, ℕ, true, false, List, [], ◌∷◌, codes}
use Rattle.dj_names.specs.Texts.{Text}
use Rattle.dj_lexer.specs.TokensAt.{IsTokenAt}
use Rattle.dj_lexer.specs.declared.token.LexFault.{LexFault}
use Rattle.dj_lexer.specs.declared.token.LexFault.TheVariants.{NotUtf8, BadCharacter, OpenComment, TooDeep}
use Rattle.dj_faults.specs.declared.fault.LineFault.{LineFault}
use Rattle.dj_faults.specs.declared.fault.LineFault.TheVariants.{RepeatedFeature, UnknownFeature, TooManyFeatures, RepeatedDelta, UnknownDelta, DeltaNotPlaced, DeltaPlacedTwice, RepeatedPart, UnknownPart, PartsNoChain, RepeatedOperation, RepeatedMember, RepeatedParameter, ReservedClass, OriginalOutside}
use Rattle.dj_report.specs.Join.{joined, line_end}
use Rattle.dj_report.specs.Places.{IsPlaceText}
use Rattle.dj_refusals.specs.Refusals.{lex_place, takes_name}
use Rattle.dj_refusals.specs.declared.refusal.JavaFault.{JavaFault}
use Rattle.dj_refusals.specs.declared.refusal.JavaFault.TheVariants.{Class, Member, Parameter}
use Rattle.dj_refusals.specs.declared.refusal.Refusal.{Refusal}
use Rattle.dj_refusals.specs.declared.refusal.Refusal.TheVariants.{TooLong, Lex, Syntax, Line, Java}

-- the words of a fault of the tokens
abbrev pub lex_words : LexFault → Text
lex_words (NotUtf8 at) = codes "not UTF-8"
lex_words (BadCharacter at) = codes "bad character"
lex_words (OpenComment at) = codes "comment not closed"
lex_words (TooDeep at) = codes "more than 256 brackets open"

-- the words of a fault of a line, before the name that it is about
abbrev pub line_words : LineFault → Text
line_words RepeatedFeature = codes "repeated feature"
line_words UnknownFeature = codes "unknown feature"
line_words TooManyFeatures = codes "more than 4096 features"
line_words RepeatedDelta = codes "repeated delta"
line_words UnknownDelta = codes "unknown delta"
line_words DeltaNotPlaced = codes "delta not placed"
line_words DeltaPlacedTwice = codes "delta placed twice"
line_words RepeatedPart = codes "repeated part"
line_words UnknownPart = codes "unknown part"
line_words PartsNoChain = codes "part not on the chain"
line_words RepeatedOperation = codes "repeated operation"
line_words RepeatedMember = codes "repeated member"
line_words RepeatedParameter = codes "repeated parameter"
line_words ReservedClass = codes "reserved class"
line_words OriginalOutside = codes "original outside a modified method"

-- the words of a fault of a Java file, before the name that it is about
abbrev pub java_words : JavaFault → Text
java_words Class = codes "repeated class"
java_words Member = codes "repeated member"
java_words Parameter = codes "repeated parameter"

-- ---- texts

-- "refused at", the place and the words
abbrev pub refused : Text → Text → Text
refused place words = joined (codes "refused at " ∷ place ∷ codes ": " ∷ words ∷ line_end ∷ [])

-- the same with a name behind the words
abbrev pub refused_name : Text → Text → Text → Text
refused_name place words name = joined (codes "refused at " ∷ place ∷ codes ": " ∷ words ∷ codes " " ∷ name ∷ line_end ∷ [])

pub data IsRefusalText (bytes : List ℕ) : Refusal → Text → Type 0 where
  too_long : IsRefusalText bytes TooLong (joined (codes "refused: longer than 4194304 bytes" ∷ line_end ∷ []))
  no_tokens : (fault : LexFault) (place : Text) → IsPlaceText bytes (lex_place fault) place → IsRefusalText bytes (Lex fault) (refused place (lex_words fault))
  no_source : (at : ℕ) (place : Text) → IsPlaceText bytes at place → IsRefusalText bytes (Syntax at) (refused place (codes "syntax"))
  at_fault : (fault : LineFault) (at : ℕ) (place : Text) → takes_name fault ≡ false → IsPlaceText bytes at place
      → IsRefusalText bytes (Line fault at) (refused place (line_words fault))
  at_fault_with : (fault : LineFault) (at : ℕ) (place name : Text) → takes_name fault ≡ true → IsPlaceText bytes at place
      → IsTokenAt bytes at name → IsRefusalText bytes (Line fault at) (refused_name place (line_words fault) name)
  at_java_fault : (fault : JavaFault) (at : ℕ) (place name : Text) → IsPlaceText bytes at place → IsTokenAt bytes at name
      → IsRefusalText bytes (Java fault at) (refused_name place (java_words fault) name)
