use Rattle.std.proofs.Common.{◌≡◌, ◌≤◌, ◌<◌, ◌^◌, ◌+◌, ◌++◌, ◌∷◌, [], All, length, sym, ap, subst, ◌∙◌, arith}
use Rattle.std.proofs.lemmas.List.{map_push, length-map}
use Rattle.std.proofs.lemmas.List.Elements.{All-push}
use Rattle.sat_clauses.specs.ClauseLists.{IsClause, literal_lists}
use Rattle.sat_links.specs.Watches.{IsListed, watches_of, slot_of, HasClauses}
use Rattle.sat_links.proofs.Facts.{is_listed, one_count}
use Rattle.sat_solver.specs.Stores.{StoreState}
use Rattle.sat_solver.specs.Watching.{Watching, IsWatching}
use Rattle.sat_solver.proofs.ClauseLemmas.{All-has}
use Rattle.sat_solver.proofs.WatchingLemmas.{pushed}
use Rattle.sat_solver.proofs.store.Store.push.Goals as goal

pub add_clause-requires-clause-first : goal.add_clause-requires-clause-first
add_clause-requires-clause-first c =
    let low = All-has (λ l. (1 ≤ l.var) × (l.var < 2 ^ 63)) c.args.clause.items c.args.first c.requires.clause.literals c.requires.first in
    let high = All-has (λ l. l.var ≤ c.args.self.now.vars) c.args.clause.items c.args.first c.requires.within c.requires.first in
    let listed : IsListed c.args.self.now.lists c.args.first = is_listed c.args.self.now.vars c.args.self.now.lists c.args.first c.requires.watching.literals low.0 high in
    subst (λ (s : StoreState). IsListed s.lists c.args.first) (sym c.self.view_is) listed

pub add_clause-requires-clause-second : goal.add_clause-requires-clause-second
add_clause-requires-clause-second c =
    let low = All-has (λ l. (1 ≤ l.var) × (l.var < 2 ^ 63)) c.args.clause.items c.args.second c.requires.clause.literals c.requires.second in
    let high = All-has (λ l. l.var ≤ c.args.self.now.vars) c.args.clause.items c.args.second c.requires.within c.requires.second in
    let listed : IsListed c.args.self.now.lists c.args.second = is_listed c.args.self.now.vars c.args.self.now.lists c.args.second c.requires.watching.literals low.0 high in
    subst (λ (s : StoreState). IsListed s.lists c.args.second) (sym c.self.view_is) listed

pub returns-clause-watching : goal.returns-clause-watching
returns-clause-watching c =
    let i = c.self.inside in
    let clauses = literal_lists i.clauses.items in
    let pairs = i.pairs.items in
    let now = c.add_clause.new.self in
    let first = c.args.first in
    let second = c.args.second in
    let is : Watching clauses i.vars pairs i.lists i.short.items = subst IsWatching (sym c.self.view_is) c.requires.watching in
    let number = c.in_ok-add_clause.field-0 in
    let many : number ≡ length pairs = one_count number (length pairs) i.lists c.in_ok-add_clause.ensures.number is.numbers in
    let at_first : watches_of now first ≡ slot_of (length pairs) 0 ∷ watches_of i.lists first = subst (λ n. watches_of now first ≡ slot_of n 0 ∷ watches_of i.lists first) many c.in_ok-add_clause.ensures.first in
    let at_second : watches_of now second ≡ slot_of (length pairs) 1 ∷ watches_of i.lists second = subst (λ n. watches_of now second ≡ slot_of n 1 ∷ watches_of i.lists second) many c.in_ok-add_clause.ensures.second in
    let each_once : HasClauses (length pairs + 1) now = subst (λ n. HasClauses (n + 1) now) many c.in_ok-add_clause.ensures.each_once in
    let grown : literal_lists c.push_reserved-2.new.self.items ≡ clauses ++ c.args.clause.items ∷ [] =
    ap literal_lists (c.push_reserved-2.ensures.items ∙ ap (λ cs. cs ++ c.args.clause ∷ []) c.reserve.ensures.items) ∙ map_push (λ clause. clause.items) i.clauses.items c.args.clause in
    let place : c.len-place.result ≡ length clauses = omega (arith, c.len-place.ensures, i.clauses.ok.0, length-map i.clauses.items (λ clause. clause.items)) in
    let grown_pairs : c.push_reserved.new.self.items ≡ pairs ++ record { place = length clauses; first = first; second = second } ∷ [] =
    c.push_reserved.ensures.items ∙ ap (λ ps. ps ++ record { place = c.len-place.result; first = first; second = second } ∷ []) c.reserve-2.ensures.items ∙ ap (λ n. pairs ++ record { place = n; first = first; second = second } ∷ []) place in
    rw (grown, grown_pairs) (pushed clauses c.args.clause.items i.vars pairs i.lists now i.short.items is first second c.requires.first c.requires.second c.requires.differ at_first at_second c.in_ok-add_clause.ensures.others c.in_ok-add_clause.ensures.literals each_once)

pub invariant_of-self-2 : goal.invariant_of-self-2
invariant_of-self-2 c =
    let i = c.self.inside in
    let clauses = literal_lists i.clauses.items in
    let grown : literal_lists c.push_reserved-2.new.self.items ≡ clauses ++ c.args.clause.items ∷ [] =
    ap literal_lists (c.push_reserved-2.ensures.items ∙ ap (λ cs. cs ++ c.args.clause ∷ []) c.reserve.ensures.items) ∙ map_push (λ clause. clause.items) i.clauses.items c.args.clause in
    let within : All (λ lit. lit.var ≤ i.vars) c.args.clause.items = subst (λ (s : StoreState). All (λ lit. lit.var ≤ s.vars) c.args.clause.items) (sym c.self.view_is) c.requires.within in
    rw grown (record {
      each = All-push IsClause clauses c.args.clause.items c.self.invariant.each c.requires.clause;
      within = All-push (λ ls. All (λ lit. lit.var ≤ i.vars) ls) clauses c.args.clause.items c.self.invariant.within within;
    })
