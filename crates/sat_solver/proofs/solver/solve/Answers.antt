use Rattle.std.proofs.Common.{◌≡◌, ◌<◌, ◌+◌, ◌^◌, arith, ◌++◌, ◌∷◌, [], false, All, IsSome, IsTrue, map, unwrap_or, length, sym, ap, subst, ◌∙◌}
use Rattle.std.proofs.lemmas.List.{length-map, length_push}
use Rattle.sat_clauses.specs.ClauseLists.{holds}
use Rattle.sat_clauses.specs.Derivations.{Derives, resolution_of}
use Rattle.sat_solver.specs.Stores.{greatest_var}
use Rattle.sat_solver.specs.Entries.{values_of}
use Rattle.sat_solver.specs.Searches.{TurnIs, Continues, Ends, DerivesEmpty, steps_in}
use Rattle.sat_solver.proofs.EntryLemmas.{length-values_of}
use Rattle.sat_solver.proofs.CountLemmas.{less_left}
use Rattle.sat_solver.proofs.SolutionLemmas.{derives_empty, all_hold}
use Rattle.sat_solver.proofs.SearchLemmas.{follow_length}
use Rattle.sat_solver.proofs.solver.solve.Goals as goal

pub turns-smaller : goal.turns-smaller
turns-smaller c =
    let old = c.turns.search in
    let new = c.turn.new.self in
    let goes : Continues old new = subst (TurnIs old new) c.in-GoesOn.is c.in_ok-turn.ensures in
    less_left old.trail new.trail c.turns.invariant.search.trail goes.search.trail goes.vars goes.rises

pub returns-in-Holds : goal.returns-in-Holds
returns-in-Holds c =
    let clauses = c.args.clauses.now in
    let old = c.turns.search in
    let new = c.turn.new.self in
    let entries = new.trail.entries in
    let ends : Ends old new = subst (TurnIs old new) c.in-Holds.is c.in_ok-turn.ensures in
    let vars : new.trail.vars ≡ greatest_var clauses = ends.vars ∙ c.turns.invariant.vars in
    let valued : All IsSome (values_of (greatest_var clauses) entries) = subst (λ n. All IsSome (values_of n entries)) vars ends.valued in
    let values : c.in_ok-assignment-in-Holds.field-0.values.items ≡ map (λ value. unwrap_or value false) (values_of (greatest_var clauses) entries) =
    c.in_ok-assignment-in-Holds.ensures ∙ ap (map (λ value. unwrap_or value false)) (c.values.ensures.values ∙ ap (λ n. values_of n entries) vars) in (
      subst (λ vs. IsTrue (holds vs clauses)) (sym values) (all_hold clauses old.store.clauses (steps_in old) entries c.in_ok-search.ensures.clauses c.turns.invariant.follow ends.settled valued),
      ap length values ∙ length-map (values_of (greatest_var clauses) entries) (λ value. unwrap_or value false) ∙ length-values_of (greatest_var clauses) entries,
    )

pub returns-in-Derives : goal.returns-in-Derives
returns-in-Derives c =
    let clauses = c.args.clauses.now in
    let old = c.turns.search in
    let new = c.turn.new.self in
    let ends : DerivesEmpty old new = subst (TurnIs old new) c.in-Derives.is c.in_ok-turn.ensures in
    let derives : Derives clauses (steps_in old ++ ends.derived.step ∷ []) = derives_empty clauses old.store.clauses (steps_in old) ends.derived.step c.turns.invariant.follow ends.derived.makes in
    let steps : steps_in old ++ ends.derived.step ∷ [] ≡ _ = sym ends.derived.steps ∙ ap (λ v. map resolution_of v.items) (sym c.into_derivation.ensures) in
    let few : length clauses + length (steps_in old ++ ends.derived.step ∷ []) < 2 ^ 63 = omega (arith, follow_length clauses old.store.clauses (steps_in old) c.turns.invariant.follow, length_push (steps_in old) ends.derived.step, ends.few) in
    subst (λ ss. Derives clauses ss × (length clauses + length ss < 2 ^ 63)) steps (derives, few)
