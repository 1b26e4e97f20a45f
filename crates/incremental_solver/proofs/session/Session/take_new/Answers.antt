use Rattle.std.proofs.Common.{◌≡◌, ◌+◌, ◌∷◌, [], ◌++◌, Some, slice_get, refl, ap, ◌∙◌, arith}
use Rattle.incremental_solver.proofs.GrowthLemmas.{session_more}
use Rattle.incremental_solver.proofs.session.Session.take_new.Goals as goal

pub loop-place-preserved : goal.loop-place-preserved
loop-place-preserved c =
    let added = c.args.added.now in
    let old = c.loop-place.self in
    let clause = c.clause.result.now in
    let known = c.loop-place.invariant.known in
    let here : slice_get added old.known ≡ Some clause = ap (slice_get added) known ∙ c.clause.ensures.found in
    let clauses : c.add.new.self.store.clauses ≡ old.search.store.clauses ++ clause ∷ [] = c.in_ok-add.ensures.clauses ∙ ap (λ x. old.search.store.clauses ++ x ∷ []) c.in_ok-clause.ensures.items in
    record {
      session = session_more added old (record { alloc = old.alloc; search = c.add.new.self; known = c.loop-place.place + 1 }) clause c.loop-place.invariant.session c.in_ok-add.ensures.search here clauses (omega (arith, known)) (omega (arith, known, c.loop-place-test.true, c.count-place-end.ensures.count));
      known = refl;
      trail = c.in_ok-add.ensures.trail ∙ c.loop-place.invariant.trail;
    }
