use Rattle.std.proofs.Common.{◌≡◌, take}
use Rattle.java_reader.specs.Making.{declared}
use Rattle.java_reader.proofs.named.by_name.Given as goal

abbrev pub invariant-loop-declaration : goal.invariant-loop-declaration
invariant-loop-declaration g l = declared l.sorted.items ≡ take l.declaration-index l.declarations
