use Rattle.std.proofs.Common.{◌-◌, ap, arith}
use Rattle.arena_walk.specs.Tree.{trees_of, size_each}
use Rattle.arena_walk.proofs.TreeLemmas.{size_above}
use Rattle.arena_walk.proofs.ForestLemmas.{tree_at_within}
use Rattle.arena_walk.proofs.SlotLemmas.{tree_behind, same_first}
use Rattle.arena_walk.proofs.arena.Arena.first_of_last.Goals as goal

pub overflow_sub-first : goal.overflow_sub-first
overflow_sub-first g c =
    let next = tree_behind g.N.Shape.arity_of c.args.self.now c.loop.counter c.loop.first (omega arith) c.loop.invariant in
    omega (arith, size_above next.0, next.2)

pub first-first-requires : goal.first-first-requires
first-first-requires g c =
    let next = tree_behind g.N.Shape.arity_of c.args.self.now c.loop.counter c.loop.first (omega arith) c.loop.invariant in
    tree_at_within g.N.Shape.arity_of c.args.self.now (c.loop.first - 1) next.0 next.1

pub loop-preserved : goal.loop-preserved
loop-preserved g c =
    let next = tree_behind g.N.Shape.arity_of c.args.self.now c.loop.counter c.loop.first (omega arith) c.loop.invariant in
    let first = same_first g.N.Shape.arity_of c.args.self.now (c.loop.first - 1) _ next.0 next.1 c.first-first.ensures.tree in
    omega (arith, size_above next.0, next.2, first, ap (λ xs. size_each (trees_of xs)) next.3)
