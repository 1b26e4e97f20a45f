-- Bytes give at most one table, or are refused for one reason.
use Rattle.std.specs.Prelude.{◌≡◌}
use Rattle.dj_names.specs.Texts.{Text}
use Rattle.dj_calculus.specs.Tables.{Table}
use Rattle.java_reader.specs.declared.error.JavaError.{JavaError}
use Rattle.java_reader.specs.Files.{IsJavaFile, IsRefusedFor}

abbrev pub OneTable : Type 0
OneTable = (bytes : Text) (a b : Table) → IsJavaFile bytes a → IsJavaFile bytes b → a ≡ b

abbrev pub OneRefusal : Type 0
OneRefusal = (bytes : Text) (a b : JavaError) → IsRefusedFor bytes a → IsRefusedFor bytes b → a ≡ b

-- the Java file of a table isn't refused
abbrev pub NoRefusedTable : Type 0
NoRefusedTable = (bytes : Text) (t : Table) (error : JavaError) → IsJavaFile bytes t → ¬ (IsRefusedFor bytes error)
