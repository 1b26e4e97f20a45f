use Rattle.std.proofs.Common.{◌≡◌, ◌+◌, [], take, get_or, max, arith, ap, sym, ◌∙◌}
use Rattle.std.proofs.lemmas.List.{take_more}
use Rattle.std.proofs.lemmas.Option.{get_or_from_slice_get}
use Rattle.sat_solver.specs.Stores.{greatest_in, greatest_var}
use Rattle.sat_solver.proofs.StoreLemmas.{greatest-push}
use Rattle.sat_solver.proofs.store.greatest_of.Goals as goal

pub loop-place-preserved : goal.loop-place-preserved
loop-place-preserved c =
    let clauses = c.args.clauses.now in
    let place = c.loop-place.place in
    let here : get_or clauses place [] ≡ c.clause.result.now = get_or_from_slice_get clauses place c.clause.result.now [] c.clause.ensures.found in
    let more : greatest_var (take (place + 1) clauses) ≡ max (greatest_var (take place clauses)) (greatest_in (get_or clauses place [])) = ap greatest_var (take_more clauses place [] (omega arith)) ∙ greatest-push (take place clauses) (get_or clauses place []) in
    let made : c.max-vars.result ≡ max c.loop-place.vars (greatest_in c.clause.result.now) = omega (arith, c.max-vars.ensures, c.greatest.ensures) in
    made ∙ ap (λ n. max n (greatest_in c.clause.result.now)) c.loop-place.invariant ∙ ap (λ ls. max (greatest_var (take place clauses)) (greatest_in ls)) (sym here) ∙ sym more
