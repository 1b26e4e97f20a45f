use Rattle.std.proofs.Common.{All, length, subst, sym, ap, ◌∙◌, refl, arith}
use Rattle.std.proofs.lemmas.List.Elements.{All-contains}
use Rattle.sat_links.specs.Queues.{IsQueue, value_of, HasValue, IsLastFree}
use Rattle.sat_links.specs.Rings.{ring_of}
use Rattle.sat_links.proofs.Facts.{queue_length}
use Rattle.sat_links.proofs.WalkLemmas.{seen_none, reached, reached_contains, reached_within, reached_free, seen_more, seen_all, place_falls, none_from_test, has_from_test}
use Rattle.sat_links.proofs.queue.DecisionQueue.last_free.Goals as goal

pub back-init : goal.back-init
back-init c = seen_none c.args.values.now _ _ _ c.self.invariant c.index-at.ensures

pub bounds-values-at : goal.bounds-values-at
bounds-values-at c =
    let within = reached_within c.args.values.now _ _ c.back.at c.self.invariant (reached c.args.values.now _ c.back.at c.back.invariant c.back-test.true) in
    omega (arith, within.0, within.1, c.requires, ap length c.self.view_is)

pub offset_bounds-values-at : goal.offset_bounds-values-at
offset_bounds-values-at c =
    let next = c.self.inside.ring.next in
    let within = reached_within c.args.values.now _ _ c.back.at c.self.invariant (reached c.args.values.now _ c.back.at c.back.invariant c.back-test.true) in
    omega (arith, within.1, queue_length c.self.invariant.vars (ring_of next.items) c.self.invariant.queue, c.self.invariant.all_after, next.ok.0, next.ok.1, next.small)

pub returns-then-is_none-clause-last : goal.returns-then-is_none-clause-last
returns-then-is_none-clause-last c =
    subst (λ q. IsLastFree c.args.values.now q c.back.at) c.self.view_is
    (reached_free c.args.values.now _ c.back.at (reached c.args.values.now _ c.back.at c.back.invariant c.back-test.true) (none_from_test (value_of c.args.values.now c.back.at) c.if-is_none.ensures))

pub returns-then-is_none-clause-none : goal.returns-then-is_none-clause-none
returns-then-is_none-clause-none c =
    let contains = reached_contains c.args.values.now _ c.back.at (reached c.args.values.now _ c.back.at c.back.invariant c.back-test.true) in
    ((λ e. cc), (λ all. sym (All-contains (HasValue c.args.values.now) (ring_of c.self.inside.ring.next.items) c.back.at (subst (All (HasValue c.args.values.now)) (sym c.self.view_is) all) contains) ∙ c.if-is_none.ensures))

pub returns-then-is_none-clause-each_once : goal.returns-then-is_none-clause-each_once
returns-then-is_none-clause-each_once c =
    subst (λ q. IsQueue (length q) q) c.self.view_is (rw (queue_length c.self.invariant.vars (ring_of c.self.inside.ring.next.items) c.self.invariant.queue) c.self.invariant.queue)

pub index-at-requires-in-back : goal.index-at-requires-in-back
index-at-requires-in-back c =
    let within = reached_within c.args.values.now _ _ c.back.at c.self.invariant (reached c.args.values.now _ c.back.at c.back.invariant c.back-test.true) in
    omega (arith, within.2, c.self.inside.ring.previous.ok.0)

pub back-smaller : goal.back-smaller
back-smaller c = place_falls c.args.values.now _ _ c.back.at _ c.self.invariant (reached c.args.values.now _ c.back.at c.back.invariant c.back-test.true) c.index-at-in-back.ensures

pub back-preserved : goal.back-preserved
back-preserved c =
    seen_more c.args.values.now _ _ c.back.at _ c.self.invariant (reached c.args.values.now _ c.back.at c.back.invariant c.back-test.true) (has_from_test (value_of c.args.values.now c.back.at) c.is_none.result c.is_none.ensures c.if-is_none.false) c.index-at-in-back.ensures

pub returns-clause-none : goal.returns-clause-none
returns-clause-none c = (
  (λ e. subst (All (HasValue c.args.values.now)) c.self.view_is (seen_all c.args.values.now _ _ c.back.at c.self.invariant c.back.invariant c.back-test.false)),
  (λ all. refl),
)

pub returns-clause-each_once : goal.returns-clause-each_once
returns-clause-each_once c =
    subst (λ q. IsQueue (length q) q) c.self.view_is (rw (queue_length c.self.invariant.vars (ring_of c.self.inside.ring.next.items) c.self.invariant.queue) c.self.invariant.queue)
