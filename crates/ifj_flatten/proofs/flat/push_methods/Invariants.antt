use Rattle.std.proofs.Common.{List, ◌++◌, take}
use Rattle.std.specs.List.{flat_map}
use Rattle.dj_names.specs.Texts.{Text}
use Rattle.dj_calculus.specs.Tables.{MethodEntry, Table}
use Rattle.dj_calculus.specs.FlatTables.{versions}
use Rattle.ifj_table.specs.Entries.{text_at, plain_method}
use Rattle.ifj_table.specs.Sorted.{pairs_of}
use Rattle.ifj_table.specs.Tables.{plain_table}
use Rattle.ifj_flatten.specs.Changes.{HasMade}
use Rattle.ifj_flatten.proofs.flat.push_methods.Given as goal

abbrev pub invariant-loop-method : goal.invariant-loop-method
invariant-loop-method l = (before : Table) (done : List (Text × MethodEntry)) → HasMade before l.class done (plain_table l.fn.flat.table)
    → HasMade before l.class (done ++ flat_map (versions l.class) (pairs_of (λ m. text_at l.from m.spot) (plain_method l.from l.exprs) (take l.method-index l.methods))) (plain_table l.flat.table)
