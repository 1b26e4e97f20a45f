use Rattle.std.proofs.Common.{sym, ap, subst}
use Rattle.std.proofs.lemmas.List.Sorted.{IsPermutation-refl}
use Rattle.sat_links.specs.Queues.{IsQueue}
use Rattle.sat_solver.specs.Entries.{AllReasoned}
use Rattle.sat_solver.specs.Trails.{TrailState}
use Rattle.sat_solver.proofs.search.Search.new.Goals as goal

pub returns-clause-search : goal.returns-clause-search
returns-clause-search c =
    let store = c.in_ok-store.store in
    let trail = c.in_ok-new.field-0 in
    let vars = ap (λ (t : TrailState). t.vars) c.in_ok-new.ensures.empty in
    record {
      trail = c.in_ok-new.ensures.trail;
      reasons = subst (λ (t : TrailState). AllReasoned store.clauses t.entries) (sym c.in_ok-new.ensures.empty) (λ k x at some. cc);
      paired = c.in_ok-new.ensures.paired store (sym c.vars-vars.ensures) c.in_ok-store.ensures.watching c.in_ok-store.ensures.unseen;
      queue = subst (λ n. IsQueue n c.in_ok-new-2.field-0.queue) (sym vars) (subst (IsQueue _) (sym c.in_ok-new-2.ensures) (IsPermutation-refl _));
    }
