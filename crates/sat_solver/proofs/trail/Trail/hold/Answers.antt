use Rattle.std.proofs.Common.{◌≡◌, ◌≤◌, ◌<◌, ◌^◌, ◌++◌, ◌∷◌, [], Some, IsTrue, length, slice_get, refl, sym, ap, subst, ◌∙◌, inr, arith}
use Rattle.std.proofs.lemmas.Bool.{true≢false, false≢true}
use Rattle.std.proofs.lemmas.Option.{same_Some, slice_get_within}
use Rattle.sat_clauses.specs.ClauseLists.{has, without}
use Rattle.sat_clauses.proofs.SetLemmas.{one_literal}
use Rattle.sat_solver.specs.declared.entry.Entry.{Entry}
use Rattle.sat_solver.specs.Entries.{IsFalseIn, IsFalseClause, IsForced, Extends, value_in}
use Rattle.sat_solver.specs.Trails.{TrailState, IsTrail}
use Rattle.sat_solver.specs.Pairing.{GoesOn, IsMade, IsHeld}
use Rattle.sat_solver.proofs.AlongLemmas.{at_end}
use Rattle.sat_solver.proofs.ClauseLemmas.{All-has, has_got, one_of, none_of, from_without, truth_true, truth_false, truth_none}
use Rattle.sat_solver.proofs.ExtendLemmas.{extends_none, extends_push}
use Rattle.sat_solver.proofs.PairingLemmas.{made_by, paired_push}
use Rattle.sat_solver.proofs.WalkLemmas.{goes_refl}
use Rattle.sat_solver.proofs.trail.Trail.hold.Goals as goal
use Rattle.sat_solver.proofs.trail.Trail.hold.Goals.{In-Some}

pub clause-requires : goal.clause-requires
clause-requires c = slice_get_within c.args.store.now.clauses c.args.place c.requires.short.clause c.requires.short.found

at_first : (c : In-Some) → slice_get c.clause.result.now 0 ≡ Some c.in-Some.lit
at_first c = sym c.first.ensures.value ∙ sym c.copied.ensures ∙ c.in-Some.is

there : (c : In-Some) → IsTrue (has c.clause.result.now c.in-Some.lit)
there c = has_got c.clause.result.now 0 c.in-Some.lit (at_first c)

few : (c : In-Some) → length c.clause.result.now < 2
few c = subst (λ ls. length ls < 2) (same_Some c.requires.short.clause c.clause.result.now (sym c.requires.short.found ∙ c.clause.ensures.found)) c.requires.short.short

within : (c : In-Some) → (1 ≤ c.in-Some.lit.var) × (c.in-Some.lit.var ≤ c.args.self.now.vars)
within c =
    let low = All-has (λ l. (1 ≤ l.var) × (l.var < 2 ^ 63)) c.clause.result.now c.in-Some.lit c.clause.ensures.clause.literals (there c) in
    let high = All-has (λ l. l.var ≤ c.args.store.now.vars) c.clause.result.now c.in-Some.lit c.clause.ensures.within (there c) in
    (low.0, omega (arith, high, c.requires.paired.vars))

pub truth-requires : goal.truth-requires
truth-requires c = within (goal.at.truth-requires c).In-Some

pub force-requires-clause-within : goal.force-requires-clause-within
force-requires-clause-within c = within (goal.at.force-requires-clause-within c).In-Some

pub force-requires-clause-free : goal.force-requires-clause-free
force-requires-clause-free c = truth_none c.args.self.now.entries c.in-Some.lit (sym c.truth.ensures ∙ c.in-None.is)

pub returns-in_default-clause-goes_on : goal.returns-in_default-clause-goes_on
returns-in_default-clause-goes_on c = goes_refl c.args.self.now c.args.store.now c.requires.paired

pub returns-in_default-clause-conflict : goal.returns-in_default-clause-conflict
returns-in_default-clause-conflict c =
    λ _.
    let empty : c.clause.result.now ≡ [] = none_of c.clause.result.now (sym c.in_default.is ∙ c.copied.ensures ∙ c.first.ensures.value) in
    record { clause = c.clause.result.now; found = c.clause.ensures.found; falsified = λ lit h. absurd (false≢true (subst (λ ls. IsTrue (has ls lit)) empty h)) }

pub returns-in-Some-truth-clause-goes_on : goal.returns-in-Some-truth-clause-goes_on
returns-in-Some-truth-clause-goes_on c = goes_refl c.args.self.now c.args.store.now c.requires.paired

pub returns-in-Some-truth-clause-held : goal.returns-in-Some-truth-clause-held
returns-in-Some-truth-clause-held c =
    λ is.
    let trail = c.args.self.now in
    let lit = c.in-Some.lit in
    let holds : value_in trail.entries lit.var ≡ Some lit.positive = truth_true trail.entries lit (sym c.truth.ensures ∙ c.in-Some-truth.is ∙ ap (λ b. Some b) is) in
    record {
      clause = c.clause.result.now;
      found = c.clause.ensures.found;
      lit = lit;
      there = there (goal.at.returns-in-Some-truth-clause-held c).In-Some;
      made = made_by trail.entries c.requires.paired.is_trail.levels lit trail.level c.requires.paired.is_trail.level holds;
    }

pub returns-in-Some-truth-clause-conflict : goal.returns-in-Some-truth-clause-conflict
returns-in-Some-truth-clause-conflict c =
    λ is.
    let body = (goal.at.returns-in-Some-truth-clause-conflict c).In-Some in
    let entries = c.args.self.now.entries in
    let lit = c.in-Some.lit in
    let falsified : IsFalseIn entries lit = truth_false entries lit (sym c.truth.ensures ∙ c.in-Some-truth.is ∙ ap (λ b. Some b) is) in
    record {
      clause = c.clause.result.now;
      found = c.clause.ensures.found;
      falsified = λ x h. subst (IsFalseIn entries) (one_literal lit x (one_of c.clause.result.now lit x (few body) (at_first body) h)) falsified;
    }

-- the entry of the literal
abbrev forced : goal.After-force → Entry
forced c = record { lit = c.in-Some.lit; level = c.args.self.now.level; reason = Some c.args.place }

pub returns-in-None-clause-goes_on : goal.returns-in-None-clause-goes_on
returns-in-None-clause-goes_on c =
    let body = (goal.at.returns-in-None-clause-goes_on c).In-Some in
    let trail = c.args.self.now in
    let store = c.args.store.now in
    let lit = c.in-Some.lit in
    let entry = forced c in
    let others : IsFalseClause trail.entries (without c.clause.result.now lit) = λ x h.
    let parts = from_without c.clause.result.now lit x h in
    absurd (true≢false (sym (one_of c.clause.result.now lit x (few body) (at_first body) parts.0) ∙ parts.1)) in
    let is : IsForced store.clauses trail.entries entry = record { place = c.args.place; clause = c.clause.result.now; reason = refl; found = c.clause.ensures.found; forces = record { there = there body; others = others } } in
    let extends : Extends store.clauses trail.level trail.entries (trail.entries ++ entry ∷ []) = extends_push store.clauses trail.level trail.entries trail.entries entry (extends_none store.clauses trail.level trail.entries) is refl in
    subst (λ t. GoesOn trail store t store) (sym c.force.ensures.forced) (record {
      extends = extends;
      level = refl;
      vars = refl;
      worked = omega arith;
      clauses = refl;
      short = refl;
      paired = paired_push trail store entry c.requires.paired (subst IsTrail c.force.ensures.forced c.force.ensures.trail) (inr refl);
    })

pub returns-in-None-clause-held : goal.returns-in-None-clause-held
returns-in-None-clause-held c =
    λ _.
    let trail = c.args.self.now in
    let entry = forced c in
    let made : IsMade (trail.entries ++ entry ∷ []) c.in-Some.lit trail.level = record { place = length trail.entries; entry = entry; at = at_end trail.entries entry; is = refl; low = omega arith } in
    let held : IsHeld (trail.entries ++ entry ∷ []) c.args.store.now.clauses trail.level c.args.place = record { clause = c.clause.result.now; found = c.clause.ensures.found; lit = c.in-Some.lit; there = there (goal.at.returns-in-None-clause-held c).In-Some; made = made } in
    subst (λ (t : TrailState). IsHeld t.entries c.args.store.now.clauses t.level c.args.place) (sym c.force.ensures.forced) held
