-- Bytes say one line at most, or are refused for one reason.
use Rattle.std.proofs.Common.{◌≡◌, ℕ, List, length, refl, ap, subst, ◌∙◌, arith}
use Rattle.dj_lexer.specs.Symbols.{symbols_of}
use Rattle.dj_lexer.specs.Faults.{HasTokens}
use Rattle.dj_lexer.specs.Laws as lexer
use Rattle.dj_lexer.specs.declared.token.Dialect.TheVariants as dialect
use Rattle.dj_lexer.specs.declared.token.Token.{Token}
use Rattle.dj_tree.specs.Trees.{Source}
use Rattle.dj_tree.specs.Spells.{Spells}
use Rattle.dj_parser.specs.Refusals.{IsLineRefusedAt}
use Rattle.dj_parser.proofs.Grammars.{one_line_place, no_line_refused}
use Rattle.dj_declarations.specs.Laws.{OneSource}
use Rattle.dj_calculus.specs.Accepted.{FirstFault}
use Rattle.dj_calculus.specs.Laws.{OneFirstFault}
use Rattle.dj_faults.specs.LineFaults.{fault_of}
use Rattle.dj_refusals.specs.declared.refusal.Refusal.TheVariants.{Lex, Syntax, Line}
use Rattle.dj_front.specs.Files.{HasTokenList, too_long, no_tokens, no_source, at_fault}
use Rattle.dj_front.specs.Laws.{OneLine, OneRefusal, NoRefusedLine}
use Rattle.dj_line.proofs.SourceAnswers.{same_code}

-- ---- one answer

has_tokens : (bytes : List ℕ) (tokens : List Token) → HasTokenList bytes tokens → HasTokens dialect.Line bytes
has_tokens bytes tokens has = (tokens, has.lexed, has.shallow)

module _ (one_list : lexer.OneTokenList) (no_fault : lexer.NoFaultInTokens) (one_lex : lexer.OneFirstFault) (one_source : OneSource) (one_fault : OneFirstFault) where
  one_tokens : (bytes : List ℕ) (t u : List Token) → HasTokenList bytes t → HasTokenList bytes u → t ≡ u
  one_tokens bytes t u first second = one_list dialect.Line bytes t u first.lexed second.lexed

  -- tokens of the same bytes spell the same
  spelled_too : (bytes : List ℕ) (t u : List Token) (source : Source) → HasTokenList bytes t → HasTokenList bytes u → Spells (symbols_of bytes u) source → Spells (symbols_of bytes t) source
  spelled_too bytes t u source first second spelled = subst (λ tokens. Spells (symbols_of bytes tokens) source) (one_tokens bytes u t second first) spelled

  not_both : (bytes : List ℕ) (t u : List Token) (source : Source) (at : ℕ) → HasTokenList bytes t → HasTokenList bytes u → Spells (symbols_of bytes t) source
      → IsLineRefusedAt (symbols_of bytes u) (length bytes) at → ⊥
  not_both bytes t u source at first second spelled refused =
      no_line_refused (symbols_of bytes u) (length bytes) at refused (source, spelled_too bytes u t source second first spelled)

  pub one_line : OneLine
  one_line bytes a b first second =
      one_source (symbols_of bytes first.tokens) a b first.spelled (spelled_too bytes first.tokens second.tokens b first.has second.has second.spelled)

  pub one_refusal : OneRefusal
  one_refusal bytes _ _ (too_long long) (too_long _) = refl
  one_refusal bytes _ _ (too_long long) (no_tokens f short x) = absurd (omega arith)
  one_refusal bytes _ _ (too_long long) (no_source t at has x) = absurd (omega (arith, has.short))
  one_refusal bytes _ _ (too_long long) (at_fault t s f at has spelled first) = absurd (omega (arith, has.short))
  one_refusal bytes _ _ (no_tokens f short x) (too_long long) = absurd (omega arith)
  one_refusal bytes _ _ (no_tokens f short x) (no_tokens g _ y) = ap Lex (one_lex dialect.Line bytes f g x y)
  one_refusal bytes _ _ (no_tokens f short x) (no_source t at has y) = absurd (no_fault dialect.Line bytes f (has_tokens bytes t has) x)
  one_refusal bytes _ _ (no_tokens f short x) (at_fault t s g at has spelled first) = absurd (no_fault dialect.Line bytes f (has_tokens bytes t has) x)
  one_refusal bytes _ _ (no_source t at has x) (too_long long) = absurd (omega (arith, has.short))
  one_refusal bytes _ _ (no_source t at has x) (no_tokens f short y) = absurd (no_fault dialect.Line bytes f (has_tokens bytes t has) y)
  one_refusal bytes _ _ (no_source t at has x) (no_source u place also y) =
      ap Syntax (one_line_place (symbols_of bytes t) (length bytes) at place x
      (subst (λ tokens. IsLineRefusedAt (symbols_of bytes tokens) (length bytes) place) (one_tokens bytes u t also has) y))
  one_refusal bytes _ _ (no_source t at has x) (at_fault u s f place also spelled first) = absurd (not_both bytes u t s at also has spelled x)
  one_refusal bytes _ _ (at_fault t s f at has spelled first) (too_long long) = absurd (omega (arith, has.short))
  one_refusal bytes _ _ (at_fault t s f at has spelled first) (no_tokens g short y) = absurd (no_fault dialect.Line bytes g (has_tokens bytes t has) y)
  one_refusal bytes _ _ (at_fault t s f at has spelled first) (no_source u place also y) = absurd (not_both bytes t u s place has also spelled y)
  one_refusal bytes _ _ (at_fault t s f a has spelled first) (at_fault u r g b also spelled_u second) =
      let source : r ≡ s = one_source (symbols_of bytes t) r s (spelled_too bytes t u r has also spelled_u) spelled in
      let here : FirstFault s (fault_of g) b = subst (λ x. FirstFault x (fault_of g) b) source second in
      let fault : f ≡ g = same_code f g (one_fault.same_fault s (fault_of f) (fault_of g) a b first here) in
      let place : a ≡ b = one_fault.same_place s (fault_of g) a b (subst (λ x. FirstFault s (fault_of x) a) fault first) here in
      ap (λ x. Line x a) fault ∙ ap (Line g) place

  pub no_refused_line : NoRefusedLine
  no_refused_line bytes source _ line (too_long long) = omega (arith, line.has.short)
  no_refused_line bytes source _ line (no_tokens f short x) = no_fault dialect.Line bytes f (has_tokens bytes line.tokens line.has) x
  no_refused_line bytes source _ line (no_source t at has x) = not_both bytes line.tokens t source at line.has has line.spelled x
  no_refused_line bytes source _ line (at_fault t s f at has spelled first) =
      let same : s ≡ source = one_source (symbols_of bytes t) s source spelled (spelled_too bytes t line.tokens source has line.has line.spelled) in
      one_fault.none source (fault_of f) at line.accepted (subst (λ x. FirstFault x (fault_of f) at) same first)
