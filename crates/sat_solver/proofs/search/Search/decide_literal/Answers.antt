use Rattle.std.proofs.Common.{◌<◌, ◌+◌, None, length, sym, subst, arith}
use Rattle.std.proofs.lemmas.Bool.{false≢true}
use Rattle.std.proofs.lemmas.List.{length_push}
use Rattle.sat_links.specs.Queues.{IsQueue}
use Rattle.sat_solver.specs.declared.entry.Entry.{Entry}
use Rattle.sat_solver.specs.Entries.{AllReasoned}
use Rattle.sat_solver.specs.Trails.{TrailState, IsTrail, with_entry}
use Rattle.sat_solver.specs.Measures.{weight}
use Rattle.sat_solver.proofs.MeasureLemmas.{weight_push}
use Rattle.sat_solver.proofs.SearchLemmas.{reasons_push}
use Rattle.sat_solver.proofs.search.Search.decide_literal.Goals as goal

-- the decision
abbrev decision : goal.After-decide_literal → Entry
decision c = record { lit = c.args.lit; level = c.args.self.now.trail.level + 1; reason = None }

pub returns-clause-search : goal.returns-clause-search
returns-clause-search c =
    let old = c.args.self.now in
    let now = c.decide_literal.new.self in
    let entry = decision c in
    let is = c.decide_literal.ensures.opened in
    record {
      trail = c.decide_literal.ensures.trail;
      reasons = subst (λ (t : TrailState). AllReasoned old.store.clauses t.entries) (sym is) (reasons_push old.store.clauses old.trail.entries entry c.requires.search.reasons (λ some. absurd (false≢true some)));
      paired = c.decide_literal.ensures.paired old.store c.requires.search.paired c.requires.worked;
      queue = subst (λ (t : TrailState). IsQueue t.vars old.order.queue) (sym is) c.requires.search.queue;
    }

pub returns-clause-farther : goal.returns-clause-farther
returns-clause-farther c =
    let old = c.args.self.now.trail in
    let entry = decision c in
    let is = c.decide_literal.ensures.opened in
    let trail : IsTrail (with_entry old entry) = subst IsTrail is c.decide_literal.ensures.trail in
    let room : length old.entries < old.vars = omega (arith, trail.small, length_push old.entries entry) in
    subst (λ (t : TrailState). weight old.vars old.entries < weight t.vars t.entries) (sym is) (weight_push old.vars old.entries entry room)
