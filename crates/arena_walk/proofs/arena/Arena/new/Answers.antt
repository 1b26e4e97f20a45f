use Rattle.std.proofs.Common.{arith}
use Rattle.arena_walk.proofs.SlotLemmas.{AreSound-nil}
use Rattle.arena_walk.proofs.arena.Arena.new.Goals as goal

pub invariant_of-result : goal.invariant_of-result
invariant_of-result g c = rw c.new.ensures.items (AreSound-nil g.N.Shape.arity_of, omega arith)
