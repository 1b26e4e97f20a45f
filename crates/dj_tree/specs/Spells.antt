-- Which tokens spell which source, which sources are laid, and which beginnings are viable, in each dialect.
use Rattle.std.specs.Prelude.{List, ◌++◌, map, All}
use Rattle.std.specs.List.Sorted.{IsStrictlyIncreasing}
use Rattle.dj_lexer.specs.Symbols.{Symbol, IsToken}
use Rattle.dj_lexer.specs.declared.token.Dialect.{Dialect}
use Rattle.dj_lexer.specs.declared.token.Dialect.TheVariants.{Line, Java}
use Rattle.dj_tree.specs.Repeats.{Many}
use Rattle.dj_tree.specs.ClassGrammar.{SpellsClass}
use Rattle.dj_tree.specs.LineGrammar.{SpellsSource}
use Rattle.dj_tree.specs.Trees.{Class, Source}

-- the tokens spell the product line
abbrev pub Spells : List Symbol → Source → Type 0
Spells = SpellsSource

-- java = { class }, without `original(..)`
abbrev pub SpellsJava : List Symbol → List Class → Type 0
SpellsJava = Many (SpellsClass Java)

-- tokens of a dialect, each at a place after the one before it
pub record AreTokens (dialect : Dialect) (tokens : List Symbol) : Type 0 where
  pub each : All (IsToken dialect) tokens
  pub rising : IsStrictlyIncreasing (map (λ s. s.at) tokens)

-- some tokens spell the source
pub record Laid (source : Source) : Type 0 where
  pub tokens : List Symbol
  pub are_tokens : AreTokens Line tokens
  pub spelled : Spells tokens source

pub record LaidJava (classes : List Class) : Type 0 where
  pub tokens : List Symbol
  pub are_tokens : AreTokens Java tokens
  pub spelled : SpellsJava tokens classes

-- some symbols that begin with these spell a source: nothing is wrong so far
pub record Viable (tokens : List Symbol) : Type 0 where
  pub rest : List Symbol
  pub source : Source
  pub spelled : Spells (tokens ++ rest) source

pub record ViableJava (tokens : List Symbol) : Type 0 where
  pub rest : List Symbol
  pub classes : List Class
  pub spelled : SpellsJava (tokens ++ rest) classes
