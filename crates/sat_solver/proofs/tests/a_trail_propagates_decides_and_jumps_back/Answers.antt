use Rattle.std.proofs.Common.{◌≡◌, rules, sym, ap, subst, ◌∙◌}
use Rattle.sat_links.specs.Queues.{IsQueue}
use Rattle.sat_solver.specs.Trails.{TrailState}
use Rattle.sat_solver.proofs.tests.a_trail_propagates_decides_and_jumps_back.Goals as goal

pub loop-expected-init : goal.loop-expected-init
loop-expected-init g c =
    let three : c.vars-vars.result ≡ 3 = search rules in (
      c.in_ok-trail.ensures.paired c.in_ok-store.store (sym c.vars-vars.ensures) c.in_ok-store.ensures.watching c.in_ok-store.ensures.unseen,
      ap (λ (t : TrailState). t.vars) c.in_ok-trail.ensures.empty ∙ three,
    )

pub settle_and_decide-decided-requires-clause-paired :
    goal.settle_and_decide-decided-requires-clause-paired
settle_and_decide-decided-requires-clause-paired g c = c.loop-expected.invariant.0

pub settle_and_decide-decided-requires-clause-queue :
    goal.settle_and_decide-decided-requires-clause-queue
settle_and_decide-decided-requires-clause-queue g c = subst (λ n. IsQueue n c.in_ok-queue.queue) (sym c.loop-expected.invariant.1) c.in_ok-queue.ensures

pub loop-expected-preserved : goal.loop-expected-preserved
loop-expected-preserved g c = (c.settle_and_decide-decided.ensures.paired, c.settle_and_decide-decided.ensures.vars ∙ c.loop-expected.invariant.1)

pub propagate-requires : goal.propagate-requires
propagate-requires g c = c.jump_back.ensures.paired c.loop-expected.store c.loop-expected.invariant.0
