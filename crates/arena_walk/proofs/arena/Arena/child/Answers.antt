use Rattle.std.proofs.Common.{◌≡◌, ◌+◌, ◌-◌, length, ap, sym, ◌∙◌, slice_get, refl, arith}
use Rattle.arena_walk.proofs.SlotLemmas.{child_behind, room_before, none_behind, behind_at, same_children, same_first}
use Rattle.arena_walk.proofs.arena.Arena.child.Goals as goal

pub overflow_sub-child : goal.overflow_sub-child
overflow_sub-child g c =
    let below = c.requires.below c.get.result.now c.get.ensures.node in
    let kids = c.get.ensures.tree.0 in
    room_before g.N.Shape.arity_of c.args.self.now c.args.at.0 c.get.result.now kids 0 c.args.at.0 c.get.ensures.tree.2 (omega (arith, c.get.ensures.tree.1)) (omega (arith, none_behind kids 0 refl))

pub loop-init : goal.loop-init
loop-init g c = λ node kids is. omega (arith, none_behind kids (c.args.k + 1 - (c.args.k + 1)) (omega arith), overflow_sub-child g c)

pub first-child-requires : goal.first-child-requires
first-child-requires g c =
    omega (arith, c.loop.invariant c.get.result.now c.get.ensures.tree.0 c.get.ensures.tree.2, c.requires.there)

pub overflow_sub-child-in-loop : goal.overflow_sub-child-in-loop
overflow_sub-child-in-loop g c =
    let node = c.get.result.now in
    let kids = c.get.ensures.tree.0 in
    let is = c.get.ensures.tree.2 in
    let j = c.loop.counter - (c.args.k + 1) in
    let this = child_behind g.N.Shape.arity_of c.args.self.now c.args.at.0 node kids j c.loop.child is (omega (arith, c.get.ensures.tree.1)) (c.loop.invariant node kids is) in
    let first = same_first g.N.Shape.arity_of c.args.self.now c.loop.child c.first-child.result.0 this.0 this.1 c.first-child.ensures.tree in
    omega (arith, first, room_before g.N.Shape.arity_of c.args.self.now c.args.at.0 node kids (j + 1) _ is (omega (arith, c.get.ensures.tree.1)) this.2)

pub loop-preserved : goal.loop-preserved
loop-preserved g c = λ node kids is.
    let same = same_children g.N.Shape.arity_of c.args.self.now c.args.at.0 c.get.result.now node c.get.ensures.tree.0 kids c.get.ensures.tree.2 is in
    let j = c.loop.counter - (c.args.k + 1) in
    let this = child_behind g.N.Shape.arity_of c.args.self.now c.args.at.0 node kids j c.loop.child is (omega (arith, c.get.ensures.tree.1)) (c.loop.invariant node kids is) in
    let first = same_first g.N.Shape.arity_of c.args.self.now c.loop.child c.first-child.result.0 this.0 this.1 c.first-child.ensures.tree in
    omega (arith, first, this.2, overflow_sub-child-in-loop g c, behind_at kids (length kids - (c.loop.counter + 1 - (c.args.k + 1))) (length kids - (j + 1)) (omega arith))

pub returns-clause-number : goal.returns-clause-number
returns-clause-number g c = λ node kids is.
    let same = same_children g.N.Shape.arity_of c.args.self.now c.args.at.0 c.get.result.now node c.get.ensures.tree.0 kids c.get.ensures.tree.2 is in
    let below = c.requires.below c.get.result.now c.get.ensures.node in
    omega (arith, c.loop.invariant node kids is, behind_at kids (c.args.k + 1) (length kids - (c.loop.counter - (c.args.k + 1))) (omega (arith, c.get.ensures.tree.1)))

pub returns-clause-tree : goal.returns-clause-tree
returns-clause-tree g c = λ node kids is.
    let same = same_children g.N.Shape.arity_of c.args.self.now c.args.at.0 c.get.result.now node c.get.ensures.tree.0 kids c.get.ensures.tree.2 is in
    let below = c.requires.below c.get.result.now c.get.ensures.node in
    let j = c.loop.counter - (c.args.k + 1) in
    let this = child_behind g.N.Shape.arity_of c.args.self.now c.args.at.0 node kids j c.loop.child is (omega (arith, c.get.ensures.tree.1)) (c.loop.invariant node kids is) in
    let place : length kids - (j + 1) ≡ c.args.k = omega (arith, c.get.ensures.tree.1) in
    this.1 ∙ sym this.3 ∙ ap (slice_get kids) place

pub returns-clause-before : goal.returns-clause-before
returns-clause-before g c =
    omega (arith, c.loop.invariant c.get.result.now c.get.ensures.tree.0 c.get.ensures.tree.2)
