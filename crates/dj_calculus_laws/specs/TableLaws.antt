-- Which tables are tables, have distinct parameters, and have a flat table.
use Rattle.std.specs.Prelude.{ℕ, List}
use Rattle.dj_tree.specs.Spells.{Laid}
use Rattle.dj_tree.specs.Trees.{Class, Source}
use Rattle.dj_calculus.specs.Configurations.{Configuration}
use Rattle.dj_calculus.specs.Accepted.{IsAccepted}
use Rattle.dj_calculus.specs.Tables.{Table, empty_table}
use Rattle.dj_calculus.specs.Products.{Product}
use Rattle.dj_calculus.specs.Expressions.{HasExpressions, HaveExpressions}
use Rattle.dj_calculus.specs.TableForms.{EachMethod, IsTable, HasDistinctParameters}
use Rattle.dj_calculus.specs.JavaFiles.{JavaFault, JavaFaultStands, table_of}
use Rattle.dj_calculus.specs.FlatTables.{flat, BeginsPlainly, HasNoDollar, IsFlattenable}

-- the empty table is one
abbrev pub EmptyIsTable : Type 0
EmptyIsTable = IsTable empty_table

-- The product of an accepted source is one where the source's bodies are expressions. It has no parameter twice.
abbrev pub ProductIsTable : Type 0
ProductIsTable = (source : Source) (c : Configuration) (t : Table) → IsAccepted source → HasExpressions source → Product source c t → IsTable t

abbrev pub ProductHasDistinct : Type 0
ProductHasDistinct = (source : Source) (c : Configuration) (t : Table) → IsAccepted source → Product source c t → HasDistinctParameters t

-- The oldest body of each of its methods says no `original`.
abbrev pub ProductBeginsPlainly : Type 0
ProductBeginsPlainly = (source : Source) (c : Configuration) (t : Table) → IsAccepted source → Product source c t → EachMethod t BeginsPlainly

-- Where tokens spell the source, whichever they are, no name of the product has `$`, and its flat table is defined.
abbrev pub ProductHasNoDollar : Type 0
ProductHasNoDollar = (source : Source) (c : Configuration) (t : Table) → ∥ Laid source ∥₁ → IsAccepted source → Product source c t → HasNoDollar t

abbrev pub ProductIsFlattenable : Type 0
ProductIsFlattenable = (source : Source) (c : Configuration) (t : Table) → ∥ Laid source ∥₁ → IsAccepted source → Product source c t
    → IsTable t × IsFlattenable t

abbrev pub HasNoFault : List Class → Type 0
HasNoFault classes = (fault : JavaFault) (at : ℕ) → ¬ (JavaFaultStands classes fault at)

-- the table of a Java file without a fault is one, and has no parameter twice
abbrev pub JavaIsTable : Type 0
JavaIsTable = (classes : List Class) → HasNoFault classes → HaveExpressions classes → IsTable (table_of classes)

abbrev pub JavaHasDistinct : Type 0
JavaHasDistinct = (classes : List Class) → HasNoFault classes → HasDistinctParameters (table_of classes)

-- the flat table of a table is one, and has no parameter twice where the table has none
abbrev pub FlatIsTable : Type 0
FlatIsTable = (t : Table) → IsTable t → IsTable (flat t)

abbrev pub FlatHasDistinct : Type 0
FlatHasDistinct = (t : Table) → HasDistinctParameters t → HasDistinctParameters (flat t)
