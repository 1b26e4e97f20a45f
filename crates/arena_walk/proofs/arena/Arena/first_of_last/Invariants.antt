use Rattle.std.proofs.Common.{◌≡◌, ◌+◌, ◌-◌, length, drop}
use Rattle.arena_walk.specs.Tree.{trees_of, size_each}
use Rattle.arena_walk.specs.Forest.{trees}
use Rattle.arena_walk.proofs.arena.Arena.first_of_last.Given as goal

-- behind the place reached stand the last trees, so many as were counted
abbrev pub invariant-loop : goal.invariant-loop
invariant-loop g l =
    let all = trees g.N.Shape.arity_of l.self in
    l.first + size_each (trees_of (drop (length all - l.counter) all)) ≡ length l.self
