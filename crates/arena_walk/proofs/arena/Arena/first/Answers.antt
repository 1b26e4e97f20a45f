use Rattle.std.proofs.Common.{arith}
use Rattle.arena_walk.specs.Tree.{over}
use Rattle.arena_walk.specs.Slots.{slot_firsts}
use Rattle.arena_walk.proofs.SlotLemmas.{length_slots, at_slot, size_within, each_arity, sound_of}
use Rattle.arena_walk.proofs.TreeLemmas.{size_above}
use Rattle.arena_walk.proofs.arena.Arena.first.Goals as goal

pub returns-clause-tree : goal.returns-clause-tree
returns-clause-tree g c =
    let slot = at_slot g.N.Shape.arity_of c.self.inside.slots.items c.args.self.now c.args.at.0 c.index.result.now c.self.invariant.0 c.self.view_is c.requires c.index.ensures in
    let tree = over c.index.result.now.node slot.0 in
    let some = size_above tree in
    let within = size_within g.N.Shape.arity_of c.args.self.now c.args.at.0 tree slot.2 in
    (tree, slot.2, slot.3, omega (arith, slot.3))

pub returns-clause-whole : goal.returns-clause-whole
returns-clause-whole g c = λ tree is.
    each_arity g.N.Shape.arity_of c.args.self.now (slot_firsts c.self.inside.slots.items) c.args.at.0 tree (sound_of g.N.Shape.arity_of c.self.inside.slots.items c.args.self.now c.self.invariant.0 c.self.view_is) is

pub returns-clause-few : goal.returns-clause-few
returns-clause-few g c = omega (arith, c.self.invariant.1, length_slots c.self.inside.slots.items c.args.self.now c.self.view_is)
