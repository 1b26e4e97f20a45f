use Rattle.std.proofs.Common.{◌≡◌, ◌+◌, ◌-◌, List, Some, length, drop}
use Rattle.arena_walk.specs.Tree.{Tree, trees_of, over, size_each}
use Rattle.arena_walk.specs.Forest.{tree_at}
use Rattle.arena_walk.proofs.arena.Arena.child.Given as goal

-- between the child reached and its parent stand the last children, so many as were counted
abbrev pub invariant-loop : goal.invariant-loop
invariant-loop g l =
    (node : _) (kids : List (Tree _)) → tree_at g.N.Shape.arity_of l.self l.fn.at.0 ≡ Some (over node kids)
    → l.child + 1 + size_each (trees_of (drop (length kids - (l.counter - (l.k + 1))) kids)) ≡ l.fn.at.0
