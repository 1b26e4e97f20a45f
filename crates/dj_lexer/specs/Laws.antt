-- Laws of tokens and faults.
use Rattle.std.specs.Prelude.{◌≡◌, ◌⊎◌, ℕ, ◌<◌, ◌≤◌, List, length, map, All}
use Rattle.std.specs.List.Sorted.{IsStrictlyIncreasing}
use Rattle.dj_lexer.specs.Tokens.{TokenList}
use Rattle.dj_lexer.specs.Symbols.{IsToken, symbols_of}
use Rattle.dj_lexer.specs.Faults.{FirstFault, HasTokens}
use Rattle.dj_lexer.specs.TokensAt.{IsTokenAt}
use Rattle.dj_lexer.specs.declared.token.Dialect.{Dialect}
use Rattle.dj_lexer.specs.declared.token.Token.{Token}
use Rattle.dj_lexer.specs.declared.token.LexFault.{LexFault}

-- a text has at most one list of tokens of a dialect
abbrev pub OneTokenList : Type 0
OneTokenList = (dialect : Dialect) (bytes : List ℕ) (a b : List Token) → TokenList dialect bytes a → TokenList dialect bytes b → a ≡ b

-- bytes have at most one first fault
abbrev pub OneFirstFault : Type 0
OneFirstFault = (dialect : Dialect) (bytes : List ℕ) (a b : LexFault) → FirstFault dialect bytes a → FirstFault dialect bytes b → a ≡ b

-- bytes that have tokens, with no more brackets open at once than may be, have no fault
abbrev pub NoFaultInTokens : Type 0
NoFaultInTokens = (dialect : Dialect) (bytes : List ℕ) (fault : LexFault) → HasTokens dialect bytes → ¬ (FirstFault dialect bytes fault)

-- each token takes bytes of the text
abbrev pub TokensAreSpans : Type 0
TokensAreSpans = (dialect : Dialect) (bytes : List ℕ) (tokens : List Token) → TokenList dialect bytes tokens
    → All (λ s. (s.from < s.to) × (s.to ≤ length bytes)) tokens

-- each token begins after the one before it
abbrev pub TokensRise : Type 0
TokensRise = (dialect : Dialect) (bytes : List ℕ) (tokens : List Token) → TokenList dialect bytes tokens → IsStrictlyIncreasing (map (λ s. s.from) tokens)

-- each token is a word or a symbol of the dialect
abbrev pub TokensAreOfDialect : Type 0
TokensAreOfDialect = (dialect : Dialect) (bytes : List ℕ) (tokens : List Token) → TokenList dialect bytes tokens → All (IsToken dialect) (symbols_of bytes tokens)

-- there are no more tokens than bytes
abbrev pub TokensAreFew : Type 0
TokensAreFew = (dialect : Dialect) (bytes : List ℕ) (tokens : List Token) → TokenList dialect bytes tokens → length tokens ≤ length bytes

-- bytes have tokens, with no more brackets open at once than may be, or a first fault
abbrev pub TokensOrFault : Type 0
TokensOrFault = (dialect : Dialect) (bytes : List ℕ) → HasTokens dialect bytes ⊎ ((fault : LexFault) × FirstFault dialect bytes fault)

-- at an offset begins at most one token, whichever dialect it is of
abbrev pub OneTokenAt : Type 0
OneTokenAt = (bytes : List ℕ) (at : ℕ) (a b : List ℕ) → IsTokenAt bytes at a → IsTokenAt bytes at b → a ≡ b
