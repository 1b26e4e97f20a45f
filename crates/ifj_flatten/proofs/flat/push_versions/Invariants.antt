use Rattle.std.proofs.Common.{List, ◌++◌, take}
use Rattle.dj_names.specs.Texts.{Text}
use Rattle.dj_calculus.specs.Tables.{MethodEntry, Table}
use Rattle.dj_calculus.specs.FlatTables.{versions}
use Rattle.ifj_table.specs.Entries.{text_at, plain_method}
use Rattle.ifj_table.specs.Tables.{plain_table}
use Rattle.ifj_flatten.specs.Changes.{HasMade}
use Rattle.ifj_flatten.proofs.flat.push_versions.Given as goal

abbrev pub invariant-versions : goal.invariant-versions
invariant-versions l = (before : Table) (done : List (Text × MethodEntry)) → HasMade before l.class done (plain_table l.fn.flat.table)
    → HasMade before l.class (done ++ take l.number (versions l.class (text_at l.from l.method.spot, plain_method l.from l.exprs l.method))) (plain_table l.flat.table)
