use Rattle.std.proofs.Common.{◌≤◌, sym, subst}
use Rattle.sat_links.specs.Queues.{IsQueue}
use Rattle.sat_solver.specs.Entries.{AllReasoned}
use Rattle.sat_solver.specs.Measures.{weight}
use Rattle.sat_solver.proofs.MeasureLemmas.{weight_more}
use Rattle.sat_solver.proofs.SearchLemmas.{reasons_extend}
use Rattle.sat_solver.proofs.search.Search.propagate.Goals as goal

pub returns-clause-search : goal.returns-clause-search
returns-clause-search c =
    let old = c.args.self.now in
    let now = c.propagate.new.self in
    let done = c.propagate.ensures in
    record {
      trail = done.trail;
      reasons = subst (λ cs. AllReasoned cs now.entries) (sym done.clauses) (reasons_extend old.store.clauses old.trail.level old.trail.entries now.entries c.requires.reasons done.extends);
      paired = done.paired;
      queue = subst (λ n. IsQueue n old.order.queue) (sym done.vars) c.requires.queue;
    }

pub returns-clause-farther : goal.returns-clause-farther
returns-clause-farther c =
    let old = c.args.self.now.trail in
    let now = c.propagate.new.self in
    let done = c.propagate.ensures in
    subst (λ n. weight old.vars old.entries ≤ weight n now.entries) (sym done.vars) (subst (λ es. weight old.vars old.entries ≤ weight old.vars es) (sym done.extends.prefix) (weight_more old.vars old.entries done.extends.added))
