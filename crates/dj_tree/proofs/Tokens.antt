-- The tokens of a text as symbols.
use Rattle.std.proofs.Common.{◌≡◌, ℕ, List, [], ◌∷◌, refl, ap, subst, sym}
use Rattle.std.specs.Prelude.{map}
use Rattle.std.specs.List.Sorted.{IsStrictlyIncreasing}
use Rattle.dj_lexer.specs.Tokens.{TokenList}
use Rattle.dj_lexer.specs.Symbols.{symbols_of}
use Rattle.dj_lexer.specs.declared.token.Dialect.{Dialect}
use Rattle.dj_lexer.specs.declared.token.Token.{Token}
use Rattle.dj_lexer.specs.Laws.{TokensRise, TokensAreOfDialect}
use Rattle.dj_tree.specs.Spells.{AreTokens}

places_of_symbols : (bytes : List ℕ) (tokens : List Token) → map (λ s. s.at) (symbols_of bytes tokens) ≡ map (λ t. t.from) tokens
places_of_symbols bytes [] = refl
places_of_symbols bytes (t ∷ ts) = ap (λ ats. t.from ∷ ats) (places_of_symbols bytes ts)

pub are_tokens : (dialect : Dialect) (bytes : List ℕ) (tokens : List Token) → TokensAreOfDialect → TokensRise → TokenList dialect bytes tokens
    → AreTokens dialect (symbols_of bytes tokens)
are_tokens dialect bytes tokens of_dialect rise t =
    record {
      each = of_dialect dialect bytes tokens t;
      rising = subst IsStrictlyIncreasing (sym (places_of_symbols bytes tokens)) (rise dialect bytes tokens t);
    }
