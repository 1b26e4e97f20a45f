use Rattle.std.proofs.Common.{◌≡◌, map, take}
use Rattle.dj_faults.specs.Spots.{class_spot}
use Rattle.dj_faults.proofs.spots.classes_changed.Given as goal

abbrev pub invariant-loop-operation : goal.invariant-loop-operation
invariant-loop-operation l = l.names.items ≡ map class_spot (take l.operation-index l.operations)
