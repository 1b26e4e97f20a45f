-- Which tables have a canonical text that reads back.
use Rattle.std.specs.Prelude.{Contains}
use Rattle.std.specs.List.{flat_map}
use Rattle.std.specs.FinMap.{entries}
use Rattle.dj_names.specs.Texts.{Text}
use Rattle.dj_lexer.specs.Symbols.{IsToken}
use Rattle.dj_lexer.specs.declared.token.Dialect.TheVariants.{Java}
use Rattle.dj_tree.specs.Words.{named, IsName}
use Rattle.dj_calculus.specs.Tables.{Table}
use Rattle.dj_calculus.specs.TableForms.{IsTable, HasDistinctParameters}
use Rattle.dj_calculus.specs.FlatTables.{names_in_class, IsFlat}

-- a word of the Java dialect that isn't reserved, wherever it stands
pub record IsJavaName (name : Text) : Type 0 where
  pub token : ∥ IsToken Java (named (record { text = name; at = 0 })) ∥₁
  pub free : IsName (record { text = name; at = 0 })

-- a flat class table in which no parameter is repeated and whose every name is one of Java
pub record IsWritable (t : Table) : Type 0 where
  pub table : IsTable t
  pub flat : IsFlat t
  pub distinct : HasDistinctParameters t
  pub names : (name : Text) → Contains (flat_map names_in_class (entries t)) name → IsJavaName name
