use Rattle.sat_solver.proofs.WatchingLemmas.{watching_none}
use Rattle.sat_solver.proofs.store.Store.empty.Goals as goal

pub returns-clause-watching : goal.returns-clause-watching
returns-clause-watching c = rw (c.new.ensures.items, c.new-2.ensures.items, c.in_ok-new.ensures, c.new-4.ensures.items) (watching_none c.args.vars)
