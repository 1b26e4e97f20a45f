-- Laws of the grammar.
use Rattle.std.specs.Prelude.{ℕ, List}
use Rattle.dj_lexer.specs.Tokens.{TokenList}
use Rattle.dj_lexer.specs.Symbols.{symbols_of}
use Rattle.dj_lexer.specs.declared.token.Dialect.TheVariants.{Line, Java}
use Rattle.dj_lexer.specs.declared.token.Token.{Token}
use Rattle.dj_tree.specs.Trees.{Source, Class}
use Rattle.dj_tree.specs.Spells.{Spells, SpellsJava, Laid, LaidJava}

-- a source that the tokens of a text spell is laid
abbrev pub SpelledSourcesAreLaid : Type 0
SpelledSourcesAreLaid = (bytes : List ℕ) (tokens : List Token) (source : Source) → TokenList Line bytes tokens → Spells (symbols_of bytes tokens) source → Laid source

abbrev pub SpelledClassesAreLaid : Type 0
SpelledClassesAreLaid =
    (bytes : List ℕ) (tokens : List Token) (classes : List Class) → TokenList Java bytes tokens → SpellsJava (symbols_of bytes tokens) classes → LaidJava classes
