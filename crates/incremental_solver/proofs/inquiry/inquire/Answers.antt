use Rattle.std.proofs.Common.{◌≤◌, All, refl, sym, subst, arith}
use Rattle.sat_clauses.specs.declared.literal.Lit.{Lit}
use Rattle.sat_solver.proofs.CountLemmas.{less_left}
use Rattle.incremental_solver.specs.Inquiries.{TurnIs, Continues, Ends}
use Rattle.incremental_solver.proofs.AssumptionLemmas.{assumes_none, answers_true}
use Rattle.incremental_solver.proofs.GrowthLemmas.{grows_same, grows_on, kept_held, refutes_before}
use Rattle.incremental_solver.proofs.inquiry.inquire.Goals as goal
use Rattle.incremental_solver.proofs.inquiry.inquire.Goals.{In-GoesOn}

pub turns-init : goal.turns-init
turns-init c =
    let search = c.args.search.now in
    record {
      grows = grows_same search search c.requires.search refl refl;
      assumes = assumes_none c.args.assumptions.now search.trail c.requires.search.trail c.requires.level;
      settled = λ k lit h at. absurd (omega (arith, h));
    }

goes : (c : In-GoesOn) → Continues c.turns.search c.advance.new.search c.args.assumptions.now c.in-GoesOn.now
goes c = subst (TurnIs c.turns.search c.advance.new.search c.args.assumptions.now) c.in-GoesOn.is c.in_ok-now.ensures.turn

pub turns-smaller : goal.turns-smaller
turns-smaller c =
    let old = c.turns.search in
    let new = c.advance.new.search in
    less_left old.trail new.trail c.turns.invariant.grows.search.trail c.advance.ensures.grows.search.trail c.advance.ensures.grows.vars (goes c).rises

pub turns-preserved : goal.turns-preserved
turns-preserved c =
    let on = goes c in
    record {
      grows = grows_on c.args.search.now c.turns.search c.advance.new.search c.turns.invariant.grows c.advance.ensures.grows;
      assumes = on.assumes;
      settled = on.settled;
    }

pub returns-in-Holds-clause-answer : goal.returns-in-Holds-clause-answer
returns-in-Holds-clause-answer c =
    let first = c.args.search.now in
    let new = c.advance.new.search in
    let assumed = c.args.assumptions.now in
    let ends : Ends new assumed = subst (TurnIs c.turns.search new assumed) c.in-Holds.is c.in_ok-now.ensures.turn in
    let grows = grows_on first c.turns.search new c.turns.invariant.grows c.advance.ensures.grows in
    let found = c.in_ok-assignment-in-Holds in
    record {
      held = kept_held first new found.field-0.values.items grows found.ensures.holds;
      true_all = answers_true assumed found.field-0 new.trail found.ensures.truths ends.true_all (subst (λ n. All (λ (lit : Lit). (1 ≤ lit.var) × (lit.var ≤ n)) assumed) (sym grows.vars) c.requires.within);
    }

pub returns-in-Refuted-clause-answer : goal.returns-in-Refuted-clause-answer
returns-in-Refuted-clause-answer c =
    let first = c.args.search.now in
    let new = c.advance.new.search in
    let assumed = c.args.assumptions.now in
    refutes_before first.store.clauses c.turns.search.store.clauses assumed c.turns.invariant.grows.follow (subst (TurnIs c.turns.search new assumed) c.in-Refuted.is c.in_ok-now.ensures.turn)
