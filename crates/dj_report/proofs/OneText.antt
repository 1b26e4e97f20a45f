-- A place has one column, and so a refusal has one text.
use Rattle.std.proofs.Common.{◌≡◌, ◌<◌, ℕ, ◌+◌, ◌-◌, ◌++◌, true, false, List, sym, ap, refl, ◌∙◌, codes, arith}
use Rattle.std.specs.Fmt.{decimal}
use Rattle.dj_names.specs.Texts.{Text}
use Rattle.dj_names.specs.Place.{ends_line, line_ends_before, IsLineStart, characters_between, IsColumn}
use Rattle.dj_lexer.specs.Laws.{OneTokenAt}
use Rattle.dj_report.specs.Places.{IsPlaceText, line_and_column}
use Rattle.dj_report.specs.Refusals.{refused, refused_name, line_words, lex_words, java_words, too_long, no_tokens, no_source, at_fault, at_fault_with, at_java_fault}
use Rattle.dj_report.specs.Laws.{OneRefusalText}

-- ---- columns

-- no line starts behind another start of the same line
no_later_start : (bytes : List ℕ) (s t at : ℕ) → IsLineStart bytes s at → IsLineStart bytes t at → s < t → ⊥
no_later_start bytes s t at first second later =
    let inside : ends_line bytes (t - 1) ≡ false = first.one_line (t - 1) (omega arith) (omega (arith, second.not_after)) in
    let begins : ends_line bytes (t - 1) ≡ true = second.begins (λ zero. omega arith) in
    cc

one_start : (bytes : List ℕ) (s t at : ℕ) → IsLineStart bytes s at → IsLineStart bytes t at → s ≡ t
one_start bytes s t at first second =
    omega (arith, λ (l : s < t). no_later_start bytes s t at first second l, λ (l : t < s). no_later_start bytes t s at second first l)

one_column : (bytes : List ℕ) (at a b : ℕ) → IsColumn bytes at a → IsColumn bytes at b → a ≡ b
one_column bytes at a b (s, start, is) (t, other, so) =
    is ∙ ap (λ n. characters_between bytes n at + 1) (one_start bytes s t at start other) ∙ sym so

pub one_place : (bytes : List ℕ) (at : ℕ) (a b : Text) → IsPlaceText bytes at a → IsPlaceText bytes at b → a ≡ b
one_place bytes at a b (line_and_column m column) (line_and_column n other) =
    ap (λ k. decimal (line_ends_before bytes at + 1) ++ (codes ":" ++ decimal k)) (one_column bytes at m n column other)

-- ---- texts

pub one_text : OneTokenAt → OneRefusalText
one_text one_token bytes _ _ _ too_long too_long = refl
one_text one_token bytes _ _ _ (no_tokens fault p at_p) (no_tokens _ q at_q) = ap (λ p. refused p (lex_words fault)) (one_place bytes _ p q at_p at_q)
one_text one_token bytes _ _ _ (no_source at p at_p) (no_source _ q at_q) = ap (λ p. refused p (codes "syntax")) (one_place bytes at p q at_p at_q)
one_text one_token bytes _ _ _ (at_fault fault at p bare at_p) (at_fault _ _ q _ at_q) = ap (λ p. refused p (line_words fault)) (one_place bytes at p q at_p at_q)
one_text one_token bytes _ _ _ (at_fault fault at p bare at_p) (at_fault_with _ _ q name takes at_q is) = cc
one_text one_token bytes _ _ _ (at_fault_with fault at p name takes at_p is) (at_fault _ _ q bare at_q) = cc
one_text one_token bytes _ _ _ (at_fault_with fault at p name takes at_p is) (at_fault_with _ _ q other _ at_q so) =
    ap (λ p. refused_name p (line_words fault) name) (one_place bytes at p q at_p at_q) ∙ ap (λ n. refused_name q (line_words fault) n) (one_token bytes at name other is so)
one_text one_token bytes _ _ _ (at_java_fault fault at p name at_p is) (at_java_fault _ _ q other at_q so) =
    ap (λ p. refused_name p (java_words fault) name) (one_place bytes at p q at_p at_q) ∙ ap (λ n. refused_name q (java_words fault) n) (one_token bytes at name other is so)
