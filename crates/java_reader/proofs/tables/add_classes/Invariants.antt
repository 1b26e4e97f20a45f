use Rattle.std.proofs.Common.{◌≡◌, map, take}
use Rattle.dj_tree.specs.Plain.{plain_class}
use Rattle.dj_calculus.specs.JavaFiles.{table_of}
use Rattle.ifj_table.specs.Tables.{plain_table}
use Rattle.java_reader.specs.Making.{declared}
use Rattle.java_reader.proofs.tables.add_classes.Given as goal

abbrev pub invariant-loop-class : goal.invariant-loop-class
invariant-loop-class l = plain_table l.table.table ≡ table_of (take l.class-index (map (plain_class l.source.names l.source.exprs) (declared l.classes)))
