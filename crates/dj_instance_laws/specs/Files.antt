-- Which bytes say which source, and which classes. Faults are another matter, and so is how many brackets are open.
use Rattle.std.specs.Prelude.{ℕ, List}
use Rattle.dj_lexer.specs.Tokens.{TokenList}
use Rattle.dj_lexer.specs.Symbols.{symbols_of}
use Rattle.dj_lexer.specs.declared.token.Dialect.TheVariants.{Line, Java}
use Rattle.dj_lexer.specs.declared.token.Token.{Token}
use Rattle.dj_tree.specs.Trees.{Class, Source}
use Rattle.dj_tree.specs.Spells.{Spells, SpellsJava}

-- the tokens of the bytes spell the source
pub record SaysLine (bytes : List ℕ) (source : Source) : Type 0 where
  pub tokens : List Token
  pub lexed : TokenList Line bytes tokens
  pub spelled : Spells (symbols_of bytes tokens) source

-- the tokens of the bytes spell the classes
pub record SaysClasses (bytes : List ℕ) (classes : List Class) : Type 0 where
  pub tokens : List Token
  pub lexed : TokenList Java bytes tokens
  pub spelled : SpellsJava (symbols_of bytes tokens) classes
