use Rattle.std.proofs.Common.{◌≡◌, sum, take, ap, arith}
use Rattle.std.proofs.lemmas.List.{take_all}
use Rattle.std.proofs.lemmas.List.Sums.{sum_by_more_le}
use Rattle.arena_walk.proofs.Visitors.{sum_sizes}
use Rattle.arena_walk.proofs.tests.CountVisitFan.node.Goals as goal

pub overflow_add-count : goal.overflow_add-count
overflow_add-count c =
    let sizes = sum_sizes c.requires.admitted.0 c.args.children.now c.requires.admitted.1 in
    let most = sum_by_more_le (λ k. k) c.args.children.now c.loop-child.child-index 0 c.loop-child-test.true in
    record { fits = omega (arith, sizes, most, c.requires.admitted.2) }

pub returns-clause-ok : goal.returns-clause-ok
returns-clause-ok c = λ kids stand _.
    let all : take c.loop-child.child-index c.args.children.now ≡ c.args.children.now = take_all c.loop-child.child-index c.args.children.now c.loop-child-test.false in
    omega (arith, ap sum all, sum_sizes kids c.args.children.now stand)
