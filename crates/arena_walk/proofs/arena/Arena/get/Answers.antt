use Rattle.arena_walk.specs.Slots.{slot_firsts}
use Rattle.arena_walk.proofs.SlotLemmas.{at_slot, each_arity, sound_of}
use Rattle.arena_walk.proofs.arena.Arena.get.Goals as goal

pub returns-clause-tree : goal.returns-clause-tree
returns-clause-tree g c =
    let slot = at_slot g.N.Shape.arity_of c.self.inside.slots.items c.args.self.now c.args.at.0 c.index.result.now c.self.invariant.0 c.self.view_is c.requires c.index.ensures in
    (slot.0, slot.1, slot.2)

pub returns-clause-whole : goal.returns-clause-whole
returns-clause-whole g c = λ tree is.
    each_arity g.N.Shape.arity_of c.args.self.now (slot_firsts c.self.inside.slots.items) c.args.at.0 tree (sound_of g.N.Shape.arity_of c.self.inside.slots.items c.args.self.now c.self.invariant.0 c.self.view_is) is
