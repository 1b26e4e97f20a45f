use Rattle.std.proofs.Common.{◌≡◌, ◌+◌, ◌≢◌, [], ◌∷◌, Bool, true, false, Option, None, Some, is_some, IfSome, length, get_or, slice_get, refl, sym, ap, subst, ◌∙◌, inl, inr, arith}
use Rattle.std.proofs.lemmas.Bool.{true≢false}
use Rattle.sat_clauses.specs.declared.literal.Lit.{Lit}
use Rattle.sat_solver.specs.declared.entry.Entry.{Entry}
use Rattle.sat_solver.specs.Entries.{truth_in, IsFalseIn}
use Rattle.sat_solver.specs.Trails.{TrailState}
use Rattle.sat_solver.proofs.ClauseLemmas.{truth_false}
use Rattle.sat_solver.proofs.CountLemmas.{rises_farther}
use Rattle.incremental_solver.specs.Inquiries.{AreTrue, AssumesFirst}
use Rattle.incremental_solver.proofs.AssumptionLemmas.{at_index, assumes_push, are_true_later, refutes}
use Rattle.incremental_solver.proofs.inquiry.decide.Goals as goal

pub returns-then-decide-clause-turn : goal.returns-then-decide-clause-turn
returns-then-decide-clause-turn c =
    let old = c.args.search.now in
    let new = c.decide.new.self in
    let assumed = c.args.assumptions.now in
    let opens = c.decide.ensures.opened c.if-decide.true in
    let entry : Entry = record { lit = opens.lit; level = old.trail.level + 1; reason = None } in
    let all : AreTrue (length assumed) old.trail.entries assumed = λ k lit h at. c.first_not_true-settled.ensures.before k lit (omega (arith, h, c.if-settled-assumptions.true)) at in
    record {
      farther = c.decide.ensures.farther c.if-decide.true;
      rises = rises_farther old.trail new.trail c.requires.search.trail c.decide.ensures.search.trail c.decide.ensures.vars (c.decide.ensures.farther c.if-decide.true);
      assumes = subst (λ (t : TrailState). AssumesFirst assumed t.entries) (sym opens.trail) (assumes_push assumed old.trail.entries entry c.requires.assumes (λ _. inr all));
      settled = subst (λ (t : TrailState). AreTrue c.first_not_true-settled.result t.entries assumed) (sym opens.trail) (are_true_later c.first_not_true-settled.result old.trail.entries (entry ∷ []) assumed c.first_not_true-settled.ensures.before);
    }

told : (o : Option Bool) → is_some o ≡ true → o ≢ Some true → o ≡ Some false
told None e other = absurd (true≢false (sym e))
told (Some true) e other = absurd (other refl)
told (Some false) e other = refl

pub returns-then-is_some-clause-turn : goal.returns-then-is_some-clause-turn
returns-then-is_some-clause-turn c =
    let old = c.args.search.now in
    let assumed = c.args.assumptions.now in
    let k = c.first_not_true-settled.result in
    let lit : Lit = get_or assumed k (record { var = 0; positive = false }) in
    let at : slice_get assumed k ≡ Some lit = at_index assumed k (record { var = 0; positive = false }) (omega (arith, c.first_not_true-settled.ensures.low, c.if-settled-assumptions.false)) in
    let other : truth_in old.trail.entries lit ≢ Some true = subst (λ o. IfSome o (λ (x : Lit). truth_in old.trail.entries x ≢ Some true)) at c.first_not_true-settled.ensures.here in
    let lies : IsFalseIn old.trail.entries lit = truth_false old.trail.entries lit (told (truth_in old.trail.entries lit) (ap is_some (sym c.truth.ensures) ∙ sym c.is_some.ensures ∙ c.if-is_some.true) other) in
    refutes old.store.clauses assumed old.trail.entries c.requires.search.reasons c.requires.assumes k lit at lies

pub returns-clause-turn : goal.returns-clause-turn
returns-clause-turn c =
    let old = c.args.search.now in
    let new = c.decide_literal.new.self in
    let assumed = c.args.assumptions.now in
    let k = c.first_not_true-settled.result in
    let lit : Lit = get_or assumed k (record { var = 0; positive = false }) in
    let at : slice_get assumed k ≡ Some lit = at_index assumed k (record { var = 0; positive = false }) (omega (arith, c.first_not_true-settled.ensures.low, c.if-settled-assumptions.false)) in
    let entry : Entry = record { lit = lit; level = old.trail.level + 1; reason = None } in
    let opened = c.decide_literal.ensures.opened in
    let vars : new.trail.vars ≡ old.trail.vars = ap (λ (t : TrailState). t.vars) opened in
    record {
      farther = c.decide_literal.ensures.farther;
      rises = rises_farther old.trail new.trail c.requires.search.trail c.decide_literal.ensures.search.trail vars c.decide_literal.ensures.farther;
      assumes = subst (λ (t : TrailState). AssumesFirst assumed t.entries) (sym opened) (assumes_push assumed old.trail.entries entry c.requires.assumes (λ _. inl (k, at)));
      settled = subst (λ (t : TrailState). AreTrue k t.entries assumed) (sym opened) (are_true_later k old.trail.entries (entry ∷ []) assumed c.first_not_true-settled.ensures.before);
    }
