use Rattle.std.proofs.Common.{◌≡◌, ◌+◌, ◌≤◌, ◌<◌, ℕ, List, All, Some, slice_get, sym, ap, subst, ◌∙◌, ◌⊎◌, inl, inr, arith}
use Rattle.std.proofs.lemmas.Bool.{cases_lt}
use Rattle.std.proofs.lemmas.Option.{same_Some, slice_get_within}
use Rattle.sat_clauses.specs.declared.literal.Lit.{Lit}
use Rattle.incremental_solver.proofs.GrowthLemmas.{literals_up_to, literals_higher}
use Rattle.incremental_solver.proofs.session.Session.room.Goals as goal

pub loop-place-init : goal.loop-place-init
loop-place-init c = record {
  old = omega (arith, c.max-vars.ensures, c.vars.ensures);
  assumed = literals_up_to c.args.assumptions.now c.max-vars.result (omega (arith, c.max-vars.ensures, c.greatest.ensures));
  seen = λ k clause low h at. absurd (omega (arith, low, h));
}

pub loop-place-preserved : goal.loop-place-preserved
loop-place-preserved c = record {
  old = omega (arith, c.loop-place.invariant.old, c.max-vars-in-loop-place.ensures);
  assumed = literals_higher c.args.assumptions.now c.loop-place.vars c.max-vars-in-loop-place.result (omega (arith, c.max-vars-in-loop-place.ensures)) c.loop-place.invariant.assumed;
  seen = λ k clause low h at. by k clause low h at (cases_lt k c.loop-place.place);
}
  where
    by : (k : ℕ) (clause : List Lit) → c.args.self.now.known ≤ k → k < c.loop-place.place + 1 → slice_get c.args.added.now k ≡ Some clause → (k < c.loop-place.place) ⊎ (c.loop-place.place ≤ k) → All (λ lit. lit.var ≤ c.max-vars-in-loop-place.result) clause
    by k clause low h at (inl below) = literals_higher clause c.loop-place.vars c.max-vars-in-loop-place.result (omega (arith, c.max-vars-in-loop-place.ensures)) (c.loop-place.invariant.seen k clause low below at)
    by k clause low h at (inr past) =
        let same : c.clause.result.now ≡ clause = same_Some c.clause.result.now clause (sym c.clause.ensures.found ∙ ap (slice_get c.args.added.now) (omega arith) ∙ at) in
        subst (λ ls. All (λ (lit : Lit). lit.var ≤ c.max-vars-in-loop-place.result) ls) same (literals_up_to c.clause.result.now c.max-vars-in-loop-place.result (omega (arith, c.max-vars-in-loop-place.ensures, c.greatest-in-loop-place.ensures)))

pub returns-clause-new : goal.returns-clause-new
returns-clause-new c = λ k clause low at. c.loop-place.invariant.seen k clause low (omega (arith, slice_get_within c.args.added.now k clause at, c.loop-place-test.false, c.count-place-end.ensures.count)) at
