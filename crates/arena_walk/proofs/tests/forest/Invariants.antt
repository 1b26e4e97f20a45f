use Rattle.std.proofs.Common.{◌≡◌, length}
use Rattle.arena_walk.specs.Forest.{trees}
use Rattle.arena_walk.proofs.tests.forest.Given as goal

abbrev pub invariant-loop-at : goal.invariant-loop-at
invariant-loop-at l = record {
  finished : l.finished ≡ length (trees (λ fan. fan.arity) l.arena);
  nodes : length l.arena ≡ l.at;
}
