use Rattle.std.proofs.Common.{◌≡◌, sym, ap, subst, ◌∙◌, arith}
use Rattle.std.proofs.lemmas.List.Sorted.{IsPermutation-refl}
use Rattle.sat_links.specs.Queues.{IsQueue}
use Rattle.sat_solver.specs.Entries.{AllReasoned}
use Rattle.sat_solver.specs.Stores.{StoreState}
use Rattle.sat_solver.specs.Trails.{TrailState}
use Rattle.sat_solver.specs.Watching.{IsWatching}
use Rattle.sat_solver.proofs.search.Search.reach.Goals as goal

pub returns-clause-search : goal.returns-clause-search
returns-clause-search c =
    let store = c.see.new.self in
    let reached = c.reach.new.self in
    let watching : IsWatching store = subst IsWatching (sym c.see.ensures) c.in_ok-reach.ensures.watching in
    let vars : store.vars ≡ c.args.vars = ap (λ (s : StoreState). s.vars) c.see.ensures ∙ ap (λ (s : StoreState). s.vars) c.in_ok-reach.ensures.ok in
    let trail_vars = ap (λ (t : TrailState). t.vars) c.in_ok-trail.ensures.empty in
    record {
      trail = c.in_ok-trail.ensures.trail;
      reasons = subst (λ (t : TrailState). AllReasoned store.clauses t.entries) (sym c.in_ok-trail.ensures.empty) (λ k x at some. cc);
      paired = c.in_ok-trail.ensures.paired store vars watching (ap (λ (s : StoreState). s.seen) c.see.ensures);
      queue = subst (λ n. IsQueue n c.in_ok-order.order.queue) (sym trail_vars) (subst (IsQueue _) (sym c.in_ok-order.ensures) (IsPermutation-refl _));
    }

pub returns-clause-clauses : goal.returns-clause-clauses
returns-clause-clauses c = ap (λ (s : StoreState). s.clauses) c.see.ensures ∙ ap (λ (s : StoreState). s.clauses) c.in_ok-reach.ensures.ok

pub reach-requires-clause-more : goal.reach-requires-clause-more
reach-requires-clause-more c = omega (arith, c.requires.more, c.requires.search.paired.vars)

pub reach-requires-clause-small : goal.reach-requires-clause-small
reach-requires-clause-small c = c.in_ok-trail.ensures.small
