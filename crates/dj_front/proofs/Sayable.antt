-- A refusal that bytes are refused for stands in them, and a name is said where its text takes one.
use Rattle.std.proofs.Common.{◌≡◌, ◌≤◌, ◌<◌, ℕ, List, ◌∷◌, length, refl, sym, ap, subst, arith, Contains}
use Rattle.std.proofs.lemmas.List.Elements.{Contains-append_right, All-contains}
use Rattle.dj_lexer.specs.Symbols.{Symbol, symbol_of, symbols_of}
use Rattle.dj_lexer.specs.Laws.{TokensAreSpans}
use Rattle.dj_lexer.specs.Tokens.{TokenList}
use Rattle.dj_lexer.specs.declared.token.Dialect.{Dialect}
use Rattle.dj_lexer.specs.declared.token.Dialect.TheVariants as dialect
use Rattle.dj_lexer.specs.declared.token.Token.{Token}
use Rattle.dj_tree.specs.Spells.{Viable}
use Rattle.dj_parser.specs.Refusals.{IsRefusedAt, IsLine, at_symbol, at_end}
use Rattle.dj_faults.specs.LineFaults.{fault_of}
use Rattle.dj_lexer.specs.TokensAt.{IsTokenAt}
use Rattle.dj_refusals.specs.Refusals.{IsWithin, IsNamed}
use Rattle.dj_refusals.specs.declared.refusal.Refusal.{Refusal}
use Rattle.dj_front.specs.Files.{HasTokenList, IsRefusedFor, too_long, no_tokens, no_source, at_fault}
use Rattle.dj_front.proofs.FaultSpots.{fault_at_symbol}
use Rattle.dj_front.proofs.LexPlaces.{fault_within}
use Rattle.dj_calculus.proofs.Members.{mapped_from}

-- ---- in any dialect

module _ (spans : TokensAreSpans) (d : Dialect) (bytes : List ℕ) (tokens : List Token) (lexed : TokenList d bytes tokens) where
  span : (token : Token) → Contains tokens token → (token.from < token.to) × (token.to ≤ length bytes)
  span token among = All-contains (λ s. (s.from < s.to) × (s.to ≤ length bytes)) tokens token (spans d bytes tokens lexed) among

  symbol_within : (s : Symbol) → Contains (symbols_of bytes tokens) s → s.at ≤ length bytes
  symbol_within s among =
      let found = mapped_from (symbol_of bytes) tokens s among in
      let place : found.0.from ≡ s.at = ap (λ x. x.at) found.2 in
      omega (arith, place, span found.0 found.1)

  -- where the tokens are refused, the place stands in the bytes
  pub refused_within : (Viable Whole : List Symbol → Type 0) (at : ℕ) → IsRefusedAt Viable Whole (symbols_of bytes tokens) (length bytes) at → at ≤ length bytes
  refused_within Viable Whole _ (at_symbol front rest s is viable wrong) =
      let P : List Symbol → Type 0 = λ all. Contains all s in
      symbol_within s (subst P (sym is) (Contains-append_right front (s ∷ rest) s (0, omega arith, refl)))
  refused_within Viable Whole _ (at_end viable not_whole) = omega arith

-- ---- in a line

module _ (bytes : List ℕ) (tokens : List Token) (has : HasTokenList bytes tokens) where
  token_said : (s : Symbol) (place : ℕ) → Contains (symbols_of bytes tokens) s → s.at ≡ place → IsTokenAt bytes place s.text
  token_said s place among here =
      let found = mapped_from (symbol_of bytes) tokens s among in
      record {
        dialect = dialect.Line;
        tokens = tokens;
        are_tokens = has.lexed;
        token = found.0;
        among = found.1;
        begins = subst (λ x. found.0.from ≡ x) here (ap (λ x. x.at) found.2);
        says = sym (ap (λ x. x.text) found.2);
      }

pub sayable : TokensAreSpans → (bytes : List ℕ) (refusal : Refusal) → IsRefusedFor bytes refusal → IsWithin bytes refusal × IsNamed bytes refusal
sayable spans bytes _ (too_long long) = (tt, tt)
sayable spans bytes _ (no_tokens fault short first) = (fault_within dialect.Line bytes fault first, tt)
sayable spans bytes _ (no_source tokens at has refused) = (refused_within spans dialect.Line bytes tokens has.lexed Viable IsLine at refused, tt)
sayable spans bytes _ (at_fault tokens source fault at has spelled first) =
    let said = fault_at_symbol (symbols_of bytes tokens) source (fault_of fault) at spelled first.stands in
    let place : at ≤ length bytes = subst (λ n. n ≤ length bytes) said.2 (symbol_within spans dialect.Line bytes tokens has.lexed said.0 said.1) in
    (place, λ takes. (said.0.text, token_said bytes tokens has said.0 at said.1 said.2))
