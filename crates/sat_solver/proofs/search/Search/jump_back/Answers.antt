use Rattle.std.proofs.Common.{length, sym, subst}
use Rattle.sat_links.specs.Queues.{IsQueue}
use Rattle.sat_solver.specs.Entries.{AllReasoned}
use Rattle.sat_solver.proofs.SearchLemmas.{reasons_take}
use Rattle.sat_solver.proofs.search.Search.jump_back.Goals as goal

pub returns-clause-search : goal.returns-clause-search
returns-clause-search c =
    let old = c.args.self.now in
    let now = c.jump_back.new.self in
    let done = c.jump_back.ensures in
    record {
      trail = done.trail;
      reasons = subst (AllReasoned old.store.clauses) (sym done.prefix) (reasons_take old.store.clauses (length now.entries) old.trail.entries c.requires.search.reasons);
      paired = done.paired old.store c.requires.search.paired;
      queue = subst (λ n. IsQueue n c.release.new.self.queue) (sym done.vars) (subst (IsQueue old.trail.vars) (sym c.release.ensures) c.requires.search.queue);
    }
