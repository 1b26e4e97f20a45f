use Rattle.std.proofs.Common.{◌≡◌, ◌++◌, ◌∷◌, [], length, sym, ap, subst, ◌∙◌, arith}
use Rattle.std.proofs.lemmas.List.{map_push, length-map}
use Rattle.sat_clauses.specs.ClauseLists.{literal_lists}
use Rattle.sat_solver.specs.Watching.{Watching, IsWatching}
use Rattle.sat_solver.proofs.WatchingLemmas.{pushed_short}
use Rattle.sat_solver.proofs.store.Store.push_short.Goals as goal

pub returns-clause-watching : goal.returns-clause-watching
returns-clause-watching c =
    let i = c.self.inside in
    let clauses = literal_lists i.clauses.items in
    let is : Watching clauses i.vars i.pairs.items i.lists i.short.items = subst IsWatching (sym c.self.view_is) c.requires.watching in
    let grown : literal_lists c.push_reserved.new.self.items ≡ clauses ++ c.args.clause.items ∷ [] =
    ap literal_lists (c.push_reserved.ensures.items ∙ ap (λ cs. cs ++ c.args.clause ∷ []) c.reserve.ensures.items) ∙ map_push (λ clause. clause.items) i.clauses.items c.args.clause in
    let place : c.len-place.result ≡ length clauses = omega (arith, c.len-place.ensures, i.clauses.ok.0, length-map i.clauses.items (λ clause. clause.items)) in
    let short : c.push.new.self.items ≡ i.short.items ++ length clauses ∷ [] = c.in_ok-push.ensures.items ∙ ap (λ n. i.short.items ++ n ∷ []) place in
    rw (grown, short) (pushed_short clauses c.args.clause.items i.vars i.pairs.items i.lists i.short.items c.requires.short is)
