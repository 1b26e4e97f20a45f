use Rattle.std.proofs.Common.{◌≡◌, map, take}
use Rattle.dj_tree.specs.Plain.{plain_method}
use Rattle.ifj_table.specs.Changes.{changed_at}
use Rattle.ifj_table.specs.Tables.{plain_table}
use Rattle.java_reader.specs.Making.{declared, with_methods}
use Rattle.java_reader.proofs.tables.add_methods.Given as goal

abbrev pub invariant-loop-method : goal.invariant-loop-method
invariant-loop-method l =
    plain_table l.table.table
    ≡ changed_at (plain_table l.fn.table.table) l.class (with_methods (take l.method-index (map (plain_method l.source.names l.source.exprs) (declared l.methods))))
