-- What the pieces of a text make of it.
use Rattle.std.proofs.Common.{◌≡◌, ℕ, ◌+◌, ◌++◌, true, false, List, [], ◌∷◌, subst, sym, ap, ◌∙◌, codes}
use Rattle.std.specs.Fmt.{decimal}
use Rattle.dj_names.specs.Texts.{Text}
use Rattle.dj_names.specs.Place.{line_ends_before, IsColumn}
use Rattle.dj_lexer.specs.TokensAt.{IsTokenAt}
use Rattle.dj_lexer.specs.declared.token.LexFault.{LexFault}
use Rattle.dj_faults.specs.declared.fault.LineFault.{LineFault}
use Rattle.dj_report.specs.Join.{joined, line_end}
use Rattle.dj_report.specs.Places.{IsPlaceText, line_and_column}
use Rattle.dj_report.specs.Refusals.{lex_words, line_words, java_words, refused, refused_name, IsRefusalText, too_long, no_tokens, no_source, at_fault, at_fault_with, at_java_fault}
use Rattle.dj_refusals.specs.Refusals.{lex_place, takes_name}
use Rattle.dj_refusals.specs.declared.refusal.JavaFault.{JavaFault}
use Rattle.dj_refusals.specs.declared.refusal.Refusal.TheVariants.{TooLong, Lex, Syntax, Line, Java}

pub place_of_parts : (bytes : List ℕ) (at line column : ℕ) (text : Text) → line ≡ line_ends_before bytes at + 1 → IsColumn bytes at column
    → text ≡ decimal line ++ (codes ":" ++ decimal column) → IsPlaceText bytes at text
place_of_parts bytes at line column text lines columns says =
    let P : Text → Type 0 = IsPlaceText bytes at in
    subst P (sym (says ∙ ap (λ n. decimal n ++ (codes ":" ++ decimal column)) lines)) (line_and_column column columns)

pub tokens_refused : (bytes : List ℕ) (fault : LexFault) (at : ℕ) (place words text : Text) → at ≡ lex_place fault → IsPlaceText bytes at place
    → words ≡ lex_words fault → text ≡ refused place words → IsRefusalText bytes (Lex fault) text
tokens_refused bytes fault at place words text here stands said says =
    let P : Text → Type 0 = IsRefusalText bytes (Lex fault) in
    let Q : ℕ → Type 0 = λ n. IsPlaceText bytes n place in
    subst P (sym (says ∙ ap (refused place) said)) (no_tokens fault place (subst Q here stands))

pub syntax_refused : (bytes : List ℕ) (at : ℕ) (place text : Text) → IsPlaceText bytes at place → text ≡ refused place (codes "syntax")
    → IsRefusalText bytes (Syntax at) text
syntax_refused bytes at place text stands says = let P : Text → Type 0 = IsRefusalText bytes (Syntax at) in subst P (sym says) (no_source at place stands)

pub fault_refused : (bytes : List ℕ) (fault : LineFault) (at : ℕ) (place words text : Text) → takes_name fault ≡ false → IsPlaceText bytes at place
    → words ≡ line_words fault → text ≡ refused place words → IsRefusalText bytes (Line fault at) text
fault_refused bytes fault at place words text bare stands said says =
    let P : Text → Type 0 = IsRefusalText bytes (Line fault at) in
    subst P (sym (says ∙ ap (refused place) said)) (at_fault fault at place bare stands)

pub name_refused : (bytes : List ℕ) (fault : LineFault) (at : ℕ) (place words name text : Text) → takes_name fault ≡ true → IsPlaceText bytes at place
    → IsTokenAt bytes at name → words ≡ line_words fault → text ≡ refused_name place words name → IsRefusalText bytes (Line fault at) text
name_refused bytes fault at place words name text takes stands says_name said says =
    let P : Text → Type 0 = IsRefusalText bytes (Line fault at) in
    subst P (sym (says ∙ ap (λ w. refused_name place w name) said)) (at_fault_with fault at place name takes stands says_name)

pub java_refused : (bytes : List ℕ) (fault : JavaFault) (at : ℕ) (place words name text : Text) → IsPlaceText bytes at place → IsTokenAt bytes at name
    → words ≡ java_words fault → text ≡ refused_name place words name → IsRefusalText bytes (Java fault at) text
java_refused bytes fault at place words name text stands says_name said says =
    let P : Text → Type 0 = IsRefusalText bytes (Java fault at) in
    subst P (sym (says ∙ ap (λ w. refused_name place w name) said)) (at_java_fault fault at place name stands says_name)

pub length_refused : (bytes text : List ℕ) → text ≡ joined (codes "refused: longer than 4194304 bytes" ∷ line_end ∷ []) → IsRefusalText bytes TooLong text
length_refused bytes text says = let P : Text → Type 0 = IsRefusalText bytes TooLong in subst P (sym says) too_long
