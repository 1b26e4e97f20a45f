use Rattle.std.proofs.Common.{sym, subst, arith}
use Rattle.sat_solver.specs.Entries.{AllReasoned}
use Rattle.sat_solver.proofs.PairingLemmas.{paired_added}
use Rattle.sat_solver.proofs.SearchLemmas.{reasons_later}
use Rattle.sat_solver.proofs.search.Search.add.Goals as goal

pub add-requires-clause-within : goal.add-requires-clause-within
add-requires-clause-within c = λ k d h. let low = c.requires.within k d h in omega (arith, low, c.requires.search.paired.vars)

pub returns-clause-search : goal.returns-clause-search
returns-clause-search c =
    let old = c.args.self.now in
    let now = c.add.new.self in
    let done = c.in_ok-add.ensures in
    record {
      trail = c.requires.search.trail;
      reasons = subst (λ cs. AllReasoned cs old.trail.entries) (sym done.clauses) (reasons_later old.store.clauses c.args.clause.items old.trail.entries c.requires.search.reasons);
      paired = paired_added old.trail old.store now c.requires.search.paired c.requires.empty done.vars done.watching done.seen;
      queue = c.requires.search.queue;
    }
