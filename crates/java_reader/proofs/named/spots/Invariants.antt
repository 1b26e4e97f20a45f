use Rattle.std.proofs.Common.{◌≡◌, map, take}
use Rattle.java_reader.proofs.named.spots.Given as goal

abbrev pub invariant-loop-declaration : goal.invariant-loop-declaration
invariant-loop-declaration g l = l.spots.items ≡ map g.D.Declaration.spot_of (take l.declaration-index l.declarations)
