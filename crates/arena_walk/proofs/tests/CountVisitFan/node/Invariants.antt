use Rattle.std.proofs.Common.{◌≡◌, ◌+◌, sum, take}
use Rattle.arena_walk.proofs.tests.CountVisitFan.node.Given as goal

abbrev pub invariant-loop-child : goal.invariant-loop-child
invariant-loop-child l = l.count ≡ 1 + sum (take l.child-index l.children)
