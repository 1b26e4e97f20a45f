use Rattle.std.proofs.Common.{◌≡◌, ◌∷◌, ◌++◌, [], length, length-append, ap, ◌∙◌, arith}
use Rattle.arena_walk.specs.Forest.{trees, tree_at, last_trees}
use Rattle.arena_walk.proofs.ForestLemmas.{trees-push, tree_at-push, tree_at-append, tree_at_within}
use Rattle.arena_walk.proofs.SlotLemmas.{sound_of_push, nodes_of_push, length_slots}
use Rattle.arena_walk.proofs.arena.Arena.push.Goals as goal
use Rattle.arena_walk.proofs.arena.Arena.push.Goals.{In_ok-push}

pub invariant_of-self-2 : goal.invariant_of-self-2
unfolding last_trees
invariant_of-self-2 g c = (
  sound_of_push g.N.Shape.arity_of c.self.inside.slots.items c.push.new.self.items record { node = c.args.node; first = c.first_of_last-first.result } c.args.self.now c.self.invariant.0 c.in_ok-push.ensures.items c.self.view_is c.requires.enough (rw (← c.arity.ensures) c.first_of_last-first.ensures),
  omega (arith, c.requires.room, length_slots c.self.inside.slots.items c.args.self.now c.self.view_is, ap length c.in_ok-push.ensures.items, length-append c.self.inside.slots.items (record { node = c.args.node; first = c.first_of_last-first.result } ∷ [])),
)

pub returns-clause-trees : goal.returns-clause-trees
returns-clause-trees g c =
    ap (trees g.N.Shape.arity_of) (nodes_of_push c.self.inside.slots.items c.push.new.self.items _ c.args.self.now c.in_ok-push.ensures.items c.self.view_is)
    ∙ trees-push g.N.Shape.arity_of c.args.self.now c.args.node

pub returns-clause-tree : goal.returns-clause-tree
returns-clause-tree g c =
    let at : c.len-at.result ≡ length c.args.self.now =
    omega (arith, c.len-at.ensures, c.self.inside.slots.ok.0, length_slots c.self.inside.slots.items c.args.self.now c.self.view_is) in
    ap (λ ns. tree_at g.N.Shape.arity_of ns c.len-at.result) (nodes_of_push c.self.inside.slots.items c.push.new.self.items _ c.args.self.now c.in_ok-push.ensures.items c.self.view_is)
    ∙ ap (tree_at g.N.Shape.arity_of (c.args.self.now ++ c.args.node ∷ [])) at ∙ tree_at-push g.N.Shape.arity_of c.args.self.now c.args.node

pub returns-clause-kept : goal.returns-clause-kept
returns-clause-kept g c = λ at tree is.
    ap (λ ns. tree_at g.N.Shape.arity_of ns at) (nodes_of_push c.self.inside.slots.items c.push.new.self.items _ c.args.self.now c.in_ok-push.ensures.items c.self.view_is)
    ∙ tree_at-append g.N.Shape.arity_of c.args.self.now _ at (tree_at_within g.N.Shape.arity_of c.args.self.now at tree is) ∙ is
