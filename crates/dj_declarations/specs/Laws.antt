-- What is promised of the readings of whole files.
use Rattle.std.specs.Prelude.{◌≡◌, List}
use Rattle.dj_lexer.specs.Symbols.{Symbol}
use Rattle.dj_lexer.specs.declared.token.Dialect.TheVariants.{Line, Java}
use Rattle.dj_tree.specs.Trees.{Source, Class}
use Rattle.dj_tree.specs.Spells.{Spells, SpellsJava}
use Rattle.dj_reader.specs.Reading.{Outcome, IsReader, End}
use Rattle.dj_formula_reader.specs.Laws.{formula_trees}
use Rattle.dj_expr_reader.specs.Laws.{expr_trees}
use Rattle.dj_declarations.specs.Readings.{source_reading, java_reading}

-- the reading of a product line, and of a Java file
abbrev pub line_reading : List Symbol → Outcome Source
line_reading symbols = source_reading (expr_trees Line) formula_trees symbols

abbrev pub classes_reading : List Symbol → Outcome (List Class)
classes_reading symbols = java_reading (expr_trees Java) symbols

-- whole files are read, and nothing else
abbrev pub SourcesAreRead : Type 0
SourcesAreRead = IsReader Spells End line_reading

abbrev pub ClassesAreRead : Type 0
ClassesAreRead = IsReader SpellsJava End classes_reading

-- symbols spell at most one
abbrev pub OneSource : Type 0
OneSource = (symbols : List Symbol) (a b : Source) → Spells symbols a → Spells symbols b → a ≡ b

abbrev pub OneJava : Type 0
OneJava = (symbols : List Symbol) (a b : List Class) → SpellsJava symbols a → SpellsJava symbols b → a ≡ b
