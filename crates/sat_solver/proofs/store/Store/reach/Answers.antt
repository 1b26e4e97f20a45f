use Rattle.std.proofs.Common.{◌≤◌, sym, ap, subst, arith}
use Rattle.sat_clauses.specs.ClauseLists.{literal_lists}
use Rattle.sat_solver.specs.Stores.{StoreState}
use Rattle.sat_solver.specs.Watching.{Watching, IsWatching}
use Rattle.sat_solver.proofs.WatchingLemmas.{reached}
use Rattle.sat_solver.proofs.store.Store.reach.Goals as goal

pub returns-clause-watching : goal.returns-clause-watching
returns-clause-watching c =
    let i = c.self.inside in
    let clauses = literal_lists i.clauses.items in
    let is : Watching clauses i.vars i.pairs.items i.lists i.short.items = subst IsWatching (sym c.self.view_is) c.requires.watching in
    let up : i.vars ≤ c.args.vars = omega (arith, ap (λ (s : StoreState). s.vars) c.self.view_is, c.requires.more) in
    subst (λ ls. Watching clauses c.args.vars i.pairs.items ls i.short.items) (sym c.in_ok-reach.ensures.ok) (reached clauses i.vars c.args.vars i.pairs.items i.lists i.short.items is c.self.invariant up)
