-- Flat tables keep types.
use Rattle.std.specs.Prelude.{◌≡◌}
use Rattle.dj_calculus.specs.Tables.{Table}
use Rattle.dj_calculus.specs.TableForms.{IsTable}
use Rattle.dj_calculus.specs.Typing.{WellTyped}
use Rattle.dj_calculus.specs.FlatTables.{flat, IsFlat, IsFlattenable}

-- the flat table of a well typed table is well typed, where it is defined
abbrev pub FlatIsWellTyped : Type 0
FlatIsWellTyped = (t : Table) → IsTable t → IsFlattenable t → WellTyped t → WellTyped (flat t)

-- a table that is flat is its own flat table
abbrev pub FlatAgain : Type 0
FlatAgain = (t : Table) → IsFlat t → flat t ≡ t
