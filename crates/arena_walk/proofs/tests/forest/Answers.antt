use Rattle.std.proofs.Common.{[], ◌∷◌, length, ap, sym, ◌∙◌, length-append, arith}
use Rattle.arena_walk.specs.Forest.{trees}
use Rattle.arena_walk.proofs.Visitors.{trees-nil, length-grow, length-trees-le}
use Rattle.arena_walk.proofs.tests.forest.Goals as goal

pub loop-at-init : goal.loop-at-init
loop-at-init c = record {
  finished = sym (ap (λ ns. length (trees (λ fan. fan.arity) ns)) c.new-arena.ensures ∙ ap length (trees-nil (λ fan. fan.arity)));
  nodes = ap length c.new-arena.ensures;
}

pub overflow_add-finished : goal.overflow_add-finished
overflow_add-finished c = record { fits = omega (arith, c.loop-at.invariant.finished, c.loop-at.invariant.nodes, length-trees-le (λ fan. fan.arity) c.loop-at.arena, c.requires) }

pub loop-at-preserved : goal.loop-at-preserved
loop-at-preserved c = record {
  finished = omega (arith, c.loop-at.invariant.finished, ap length c.in_ok-push.ensures.trees, length-grow (λ fan. fan.arity) (trees (λ fan. fan.arity) c.loop-at.arena) record { arity = c.min-arity.result; value = c.loop-at.at });
  nodes = ap length c.in_ok-push.ensures.nodes ∙ omega (arith, c.loop-at.invariant.nodes, length-append c.loop-at.arena (record { arity = c.min-arity.result; value = c.loop-at.at } ∷ []));
}
