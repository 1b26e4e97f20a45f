use Rattle.std.proofs.Common.{◌≡◌, length, sym, subst}
use Rattle.sat_links.specs.Queues.{IsQueue}
use Rattle.sat_solver.proofs.QueueLemmas.{queue_length}
use Rattle.sat_solver.proofs.SearchLemmas.{false_vars}
use Rattle.sat_solver.proofs.search.Search.learn.Goals as goal

pub postpone-requires-clause-queue : goal.postpone-requires-clause-queue
postpone-requires-clause-queue c =
    let old = c.args.self.now in
    subst (λ n. IsQueue n old.order.queue) (sym (queue_length old.trail.vars old.order.queue c.requires.search.queue)) c.requires.search.queue

pub postpone-requires-clause-within : goal.postpone-requires-clause-within
postpone-requires-clause-within c =
    let old = c.args.self.now in
    let many : length old.order.queue ≡ old.trail.vars = queue_length old.trail.vars old.order.queue c.requires.search.queue in
    let within = false_vars old.trail.vars old.trail.entries c.requires.search.trail.within c.in_ok-clause.field-0.clause.items c.in_ok-clause.ensures.teaches.falsified in
    rw (c.as_slice.ensures.value, many) within

pub assert-requires-clause-search : goal.assert-requires-clause-search
assert-requires-clause-search c =
    let old = c.args.self.now in
    record {
      trail = c.requires.search.trail;
      reasons = c.requires.search.reasons;
      paired = c.requires.search.paired;
      queue = subst (λ n. IsQueue n c.postpone.new.self.queue) (queue_length old.trail.vars old.order.queue c.requires.search.queue) c.postpone.ensures;
    }
