use Rattle.std.proofs.Common.{◌≤◌, arith}
use Rattle.arena_walk.specs.Tree.{size}
use Rattle.arena_walk.proofs.Visitors.{each_by_number, size_within}
use Rattle.arena_walk.proofs.tests.count_of.Goals as goal

pub walk-requires-clause-admitted : goal.walk-requires-clause-admitted
walk-requires-clause-admitted c = λ tree is.
    each_by_number (λ u _. size u ≤ 4294967295) _ c.args.arena.now c.args.root.0 tree
    (λ u k below e. omega (arith, size_within _ c.args.arena.now k u e, c.requires.there, c.requires.small)) is
