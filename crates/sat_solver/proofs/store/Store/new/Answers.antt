use Rattle.std.proofs.Common.{◌≡◌, ◌≤◌, ◌++◌, ◌∷◌, [], All, take, get_or, arith, sym, ap, ◌∙◌}
use Rattle.std.proofs.lemmas.List.{take_more}
use Rattle.std.proofs.lemmas.Option.{get_or_from_slice_get}
use Rattle.sat_solver.specs.Stores.{greatest_var}
use Rattle.sat_solver.proofs.StoreLemmas.{clause_below}
use Rattle.sat_solver.proofs.store.Store.new.Goals as goal

pub add-requires-clause-within : goal.add-requires-clause-within
add-requires-clause-within c =
    let clauses = c.args.clauses.now in
    let low : All (λ lit. lit.var ≤ greatest_var clauses) c.clause.result.now = clause_below clauses c.loop-place.place c.clause.result.now c.clause.ensures.found in
    rw (c.in_ok-clause.ensures.items, c.loop-place.invariant.vars) low

pub loop-place-preserved : goal.loop-place-preserved
loop-place-preserved c =
    let clauses = c.args.clauses.now in
    let place = c.loop-place.place in
    let here : c.in_ok-clause.clause.items ≡ get_or clauses place [] = c.in_ok-clause.ensures.items ∙ sym (get_or_from_slice_get clauses place c.clause.result.now [] c.clause.ensures.found) in
    record {
      clauses = c.in_ok-add.ensures.clauses
          ∙ ap (λ cs. cs ++ c.in_ok-clause.clause.items ∷ []) c.loop-place.invariant.clauses
          ∙ ap (λ x. take place clauses ++ x ∷ []) here
          ∙ sym (take_more clauses place [] (omega arith));
      vars = c.in_ok-add.ensures.vars ∙ c.loop-place.invariant.vars;
      watching = c.in_ok-add.ensures.watching;
      unseen = c.in_ok-add.ensures.seen ∙ c.loop-place.invariant.unseen;
    }
