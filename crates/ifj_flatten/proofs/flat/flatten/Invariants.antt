use Rattle.std.proofs.Common.{◌≡◌, take}
use Rattle.ifj_table.specs.Sorted.{map_of}
use Rattle.ifj_table.specs.Tables.{plain_table}
use Rattle.ifj_flatten.proofs.Flattened.{class_key, flat_read}
use Rattle.ifj_flatten.proofs.flat.flatten.Given as goal

abbrev pub invariant-loop-class : goal.invariant-loop-class
invariant-loop-class l = plain_table l.flat.table ≡ map_of (class_key l.from l.exprs) (flat_read l.from l.exprs) (take l.class-index l.classes)
