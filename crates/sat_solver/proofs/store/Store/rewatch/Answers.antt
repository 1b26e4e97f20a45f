use Rattle.std.proofs.Common.{◌≡◌, Some, IsTrue, List, slice_get, sym, subst}
use Rattle.sat_clauses.specs.declared.literal.Lit.{Lit}
use Rattle.sat_clauses.specs.ClauseLists.{has, literal_lists}
use Rattle.sat_solver.specs.Stores.{StoreState}
use Rattle.sat_solver.specs.Watching.{Watches, Watching, IsWatching}
use Rattle.sat_solver.proofs.WatchingLemmas.{rewatched}
use Rattle.sat_solver.proofs.store.Store.rewatch.Goals as goal

pub returns-clause-watching : goal.returns-clause-watching
returns-clause-watching c =
    let i = c.self.inside in
    let clauses = literal_lists i.clauses.items in
    let to = c.args.to in
    let pair = c.args.pair in
    let watch = c.args.watch in
    let is : Watching clauses i.vars i.pairs.items i.lists i.short.items = subst IsWatching (sym c.self.view_is) c.requires.watching in
    let found : slice_get i.pairs.items watch.clause ≡ Some pair = subst (λ (s : StoreState). slice_get s.pairs watch.clause ≡ Some pair) (sym c.self.view_is) c.requires.pair in
    let watches : Watches i.pairs.items c.args.lit watch = subst (λ (s : StoreState). Watches s.pairs c.args.lit watch) (sym c.self.view_is) c.requires.watches in
    let there : (clause : List Lit) → slice_get clauses pair.place ≡ Some clause → IsTrue (has clause to) = subst (λ (s : StoreState). (clause : List Lit) → slice_get s.clauses pair.place ≡ Some clause → IsTrue (has clause to)) (sym c.self.view_is) c.requires.there in
    rw c.moved.ensures (rewatched clauses i.vars i.pairs.items i.lists c.rewatch.new.self i.short.items is c.args.lit to watch pair found watches c.requires.new c.requires.other there c.rewatch.ensures.left c.rewatch.ensures.front c.rewatch.ensures.others c.rewatch.ensures.literals c.rewatch.ensures.same_watches)
