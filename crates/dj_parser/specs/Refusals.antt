-- Where symbols are refused.
use Rattle.std.specs.Prelude.{◌≡◌, ℕ, List, [], ◌∷◌, ◌++◌}
use Rattle.dj_lexer.specs.Symbols.{Symbol}
use Rattle.dj_lexer.specs.declared.token.Token.{Token}
use Rattle.dj_tree.specs.Trees.{Source, Class}
use Rattle.dj_tree.specs.Spells.{Spells, SpellsJava, Viable, ViableJava}
use Rattle.dj_parser.specs.declared.error.ParseError.{ParseError}
use Rattle.dj_parser.specs.declared.error.ParseError.TheVariants.{Syntax, NoMemory}

-- The place where symbols of a grammar are refused: that of the first symbol that leaves the beginning up to it not viable, or else the end of the text,
-- where they are viable and not a whole. `IsViable` says which beginnings are viable, `IsWhole` which symbols are a whole.
pub data IsRefusedAt (IsViable IsWhole : List Symbol → Type 0) (symbols : List Symbol) (end : ℕ) : ℕ → Type 0 where
  at_symbol : (front rest : List Symbol) (s : Symbol) → symbols ≡ front ++ s ∷ rest → IsViable front → ¬ IsViable (front ++ s ∷ [])
      → IsRefusedAt IsViable IsWhole symbols end s.at
  at_end : IsViable symbols → ¬ IsWhole symbols → IsRefusedAt IsViable IsWhole symbols end end

-- some product line, and some Java file, is spelled by the symbols
abbrev pub IsLine : List Symbol → Type 0
IsLine symbols = (source : Source) × Spells symbols source

abbrev pub IsJava : List Symbol → Type 0
IsJava symbols = (classes : List Class) × SpellsJava symbols classes

-- the symbols of a text that ends at this byte offset are refused at the place, as a product line and as a Java file
abbrev pub IsLineRefusedAt : List Symbol → ℕ → ℕ → Type 0
IsLineRefusedAt symbols end at = IsRefusedAt Viable IsLine symbols end at

abbrev pub IsJavaRefusedAt : List Symbol → ℕ → ℕ → Type 0
IsJavaRefusedAt symbols end at = IsRefusedAt ViableJava IsJava symbols end at

-- the error has its cause
abbrev pub HasCause : (ℕ → Type 0) → ParseError → Type 0
HasCause refused (Syntax at) = refused at
HasCause refused NoMemory = Unit {0}

-- the place of the first of the tokens, or the end where there is none
abbrev pub place_of : List Token → ℕ → ℕ
place_of [] end = end
place_of (token ∷ _) end = token.from
