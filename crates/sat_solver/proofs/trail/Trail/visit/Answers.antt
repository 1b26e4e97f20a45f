use Rattle.std.proofs.Common.{◌≡◌, ◌≤◌, ◌<◌, ◌^◌, ◌++◌, ◌∷◌, [], true, false, Some, IsTrue, length, slice_get, refl, sym, ap, subst, ◌∙◌, inr, arith}
use Rattle.std.proofs.lemmas.Option.{same_Some, slice_get_within}
use Rattle.sat_clauses.specs.declared.literal.Lit.{Lit}
use Rattle.sat_clauses.specs.ClauseLists.{has}
use Rattle.sat_links.proofs.Facts.{is_listed}
use Rattle.sat_solver.specs.declared.entry.Entry.{Entry}
use Rattle.sat_solver.specs.declared.pair.Pair.{Pair}
use Rattle.sat_solver.specs.Stores.{StoreState}
use Rattle.sat_solver.specs.Watching.{guard, moved}
use Rattle.sat_solver.specs.Entries.{IsFalseIn, IsForced, Extends, value_in}
use Rattle.sat_solver.specs.Trails.{TrailState, IsTrail}
use Rattle.sat_solver.specs.Pairing.{GoesOn, IsMade}
use Rattle.sat_solver.proofs.AlongLemmas.{at_end}
use Rattle.sat_solver.proofs.ClauseLemmas.{All-has, truth_is, truth_true, truth_false, truth_none, truth_left, false_all}
use Rattle.sat_solver.proofs.ExtendLemmas.{extends_none, extends_push}
use Rattle.sat_solver.proofs.WatchingLemmas.{guard_in, set_here, pairs_apart}
use Rattle.sat_solver.proofs.PairingLemmas.{made_by, has_list, paired_moved, paired_push}
use Rattle.sat_solver.proofs.WalkLemmas.{goes_refl}
use Rattle.sat_solver.proofs.trail.Trail.visit.Goals as goal
use Rattle.sat_solver.proofs.trail.Trail.visit.Goals.{After-guard-other, After-truth-truth}

pub clause-clause-requires : goal.clause-clause-requires
clause-clause-requires c =
    let is = c.requires.paired.watching.paired c.args.watch.clause c.pair-pair.result c.pair-pair.ensures in
    slice_get_within c.args.store.now.clauses c.pair-pair.result.place is.clause is.found

-- the other watched literal is in the clause
other_in : (c : After-guard-other) → IsTrue (has c.clause-clause.result.now c.guard-other.result)
other_in c =
    let is = c.requires.paired.watching.paired c.args.watch.clause c.pair-pair.result c.pair-pair.ensures in
    subst (λ l. IsTrue (has c.clause-clause.result.now l)) (sym c.guard-other.ensures) (guard_in c.args.store.now.clauses c.pair-pair.result c.args.watch.slot c.clause-clause.result.now is c.clause-clause.ensures.found)

within : (c : After-guard-other) (lit : Lit) → IsTrue (has c.clause-clause.result.now lit) → (1 ≤ lit.var) × (lit.var ≤ c.args.self.now.vars)
within c lit there =
    let low = All-has (λ l. (1 ≤ l.var) × (l.var < 2 ^ 63)) c.clause-clause.result.now lit c.clause-clause.ensures.clause.literals there in
    let high = All-has (λ l. l.var ≤ c.args.store.now.vars) c.clause-clause.result.now lit c.clause-clause.ensures.within there in
    (low.0, omega (arith, high, c.requires.paired.vars))

pub truth-truth-requires : goal.truth-truth-requires
truth-truth-requires c = within (goal.at.truth-truth-requires c).After-guard-other c.guard-other.result (other_in (goal.at.truth-truth-requires c).After-guard-other)

-- the pair of the watch
pair_is : (c : After-guard-other) (pair : Pair) → slice_get c.args.store.now.pairs c.args.watch.clause ≡ Some pair → guard pair c.args.watch.slot ≡ c.guard-other.result
pair_is c pair found = ap (λ p. guard p c.args.watch.slot) (same_Some pair c.pair-pair.result (sym found ∙ c.pair-pair.ensures)) ∙ sym c.guard-other.ensures

pub returns-then-eq-clause-goes_on : goal.returns-then-eq-clause-goes_on
returns-then-eq-clause-goes_on c = goes_refl c.args.self.now c.args.store.now c.requires.paired

pub returns-then-eq-clause-visit : goal.returns-then-eq-clause-visit
returns-then-eq-clause-visit c =
    let trail = c.args.self.now in
    let other = c.guard-other.result in
    let holds : value_in trail.entries other.var ≡ Some other.positive = truth_true trail.entries other (sym c.truth-truth.ensures ∙ truth_is c.truth-truth.result true (sym c.eq.ensures ∙ c.if-eq.true)) in
    let made : IsMade trail.entries other trail.level = made_by trail.entries c.requires.paired.is_trail.levels other trail.level c.requires.paired.is_trail.level holds in
    (refl, λ pair found. subst (λ l. IsMade trail.entries l trail.level) (sym (pair_is (goal.at.returns-then-eq-clause-visit c).After-guard-other pair found)) made)

pub other_than_false-requires : goal.other_than_false-requires
other_than_false-requires c =
    λ k d h.
    let low = c.clause-clause.ensures.clause.literals k d h in
    let high = c.clause-clause.ensures.within k d h in
    (low.0, omega (arith, high, c.requires.paired.vars))

pub rewatch-requires-clause-lit : goal.rewatch-requires-clause-lit
rewatch-requires-clause-lit c = has_list c.args.self.now c.args.store.now c.args.lit c.requires.paired c.requires.falsified

pub rewatch-requires-clause-to : goal.rewatch-requires-clause-to
rewatch-requires-clause-to c =
    let h = within (goal.at.rewatch-requires-clause-to c).After-guard-other c.in-Some.to c.in-Some.ensures.there in
    is_listed c.args.store.now.vars c.args.store.now.lists c.in-Some.to c.requires.paired.watching.literals h.0 (omega (arith, h.1, c.requires.paired.vars))

pub rewatch-requires-clause-there : goal.rewatch-requires-clause-there
rewatch-requires-clause-there c = λ clause found. subst (λ ls. IsTrue (has ls c.in-Some.to)) (same_Some c.clause-clause.result.now clause (sym c.clause-clause.ensures.found ∙ found)) c.in-Some.ensures.there

pub rewatch-requires-clause-new : goal.rewatch-requires-clause-new
rewatch-requires-clause-new c = λ same. c.in-Some.ensures.not_false (subst (IsFalseIn c.args.self.now.entries) (sym same) c.requires.falsified)

pub rewatch-requires-clause-other : goal.rewatch-requires-clause-other
rewatch-requires-clause-other c = λ same. c.in-Some.ensures.differs (same ∙ sym c.guard-other.ensures)

pub returns-in-Some-clause-goes_on : goal.returns-in-Some-clause-goes_on
returns-in-Some-clause-goes_on c =
    let trail = c.args.self.now in
    let store = c.args.store.now in
    let now = c.rewatch.new.self in
    let pair = c.pair-pair.result in
    let watch = c.args.watch in
    let to = c.in-Some.to in
    let is = c.rewatch.ensures.store in
    let clauses = ap (λ (s : StoreState). s.clauses) is in
    let short = ap (λ (s : StoreState). s.short) is in
    let here : slice_get now.pairs watch.clause ≡ Some (moved pair watch.slot to) = ap (λ (s : StoreState). slice_get s.pairs watch.clause) is ∙ set_here store.pairs watch.clause pair (moved pair watch.slot to) c.pair-pair.ensures in
    record {
      extends = extends_none store.clauses trail.level trail.entries;
      level = refl;
      vars = refl;
      worked = omega arith;
      clauses = clauses;
      short = short;
      paired = paired_moved trail store now c.args.lit to watch pair c.requires.paired c.pair-pair.ensures c.requires.watches c.requires.falsified c.in-Some.ensures.not_false c.rewatch.ensures.watching clauses (ap (λ (s : StoreState). s.vars) is) short (ap (λ (s : StoreState). s.seen) is) here
          (λ number differ. ap (λ (s : StoreState). slice_get s.pairs number) is ∙ pairs_apart store.pairs watch.clause number (moved pair watch.slot to) differ);
    }

pub returns-in-Some-clause-visit : goal.returns-in-Some-clause-visit
returns-in-Some-clause-visit c = record {
  list = c.rewatch.ensures.left;
  pairs = λ number differ. ap (λ (s : StoreState). slice_get s.pairs number) c.rewatch.ensures.store ∙ pairs_apart c.args.store.now.pairs c.args.watch.clause number (moved c.pair-pair.result c.args.watch.slot c.in-Some.to) differ;
}

pub returns-then-eq-2-clause-goes_on : goal.returns-then-eq-2-clause-goes_on
returns-then-eq-2-clause-goes_on c = goes_refl c.args.self.now c.args.store.now c.requires.paired

pub returns-then-eq-2-clause-visit : goal.returns-then-eq-2-clause-visit
returns-then-eq-2-clause-visit c =
    let entries = c.args.self.now.entries in
    let other = c.guard-other.result in
    let falsified : IsFalseIn entries other = truth_false entries other (sym c.truth-truth.ensures ∙ truth_is c.truth-truth.result false (sym c.eq-2.ensures ∙ c.if-eq-2.true)) in
    record {
      clause = c.clause-clause.result.now;
      found = c.clause-clause.ensures.found;
      falsified = false_all entries c.clause-clause.result.now other falsified c.in_default.ensures.none;
    }

pub force-requires-clause-within : goal.force-requires-clause-within
force-requires-clause-within c = within (goal.at.force-requires-clause-within c).After-guard-other c.guard-other.result (other_in (goal.at.force-requires-clause-within c).After-guard-other)

pub force-requires-clause-free : goal.force-requires-clause-free
force-requires-clause-free c =
    truth_none c.args.self.now.entries c.guard-other.result (sym c.truth-truth.ensures ∙ truth_left c.truth-truth.result (sym c.eq.ensures ∙ c.if-eq.false) (sym c.eq-2.ensures ∙ c.if-eq-2.false))

-- the entry of the other literal
abbrev forced : goal.After-force → Entry
forced c = record { lit = c.guard-other.result; level = c.args.self.now.level; reason = Some c.pair-pair.result.place }

pub returns-clause-goes_on : goal.returns-clause-goes_on
returns-clause-goes_on c =
    let trail = c.args.self.now in
    let store = c.args.store.now in
    let entry = forced c in
    let is : IsForced store.clauses trail.entries entry = record {
      place = c.pair-pair.result.place;
      clause = c.clause-clause.result.now;
      reason = refl;
      found = c.clause-clause.ensures.found;
      forces = record { there = other_in (goal.at.returns-clause-goes_on c).After-guard-other; others = c.in_default.ensures.none };
    } in
    let extends : Extends store.clauses trail.level trail.entries (trail.entries ++ entry ∷ []) = extends_push store.clauses trail.level trail.entries trail.entries entry (extends_none store.clauses trail.level trail.entries) is refl in
    subst (λ t. GoesOn trail store t store) (sym c.force.ensures.forced) (record {
      extends = extends;
      level = refl;
      vars = refl;
      worked = omega arith;
      clauses = refl;
      short = refl;
      paired = paired_push trail store entry c.requires.paired (subst IsTrail c.force.ensures.forced c.force.ensures.trail) (inr refl);
    })

pub returns-clause-visit : goal.returns-clause-visit
returns-clause-visit c =
    let trail = c.args.self.now in
    let entry = forced c in
    let made : (pair : Pair) → slice_get c.args.store.now.pairs c.args.watch.clause ≡ Some pair → IsMade (trail.entries ++ entry ∷ []) (guard pair c.args.watch.slot) trail.level =
    λ pair found. record { place = length trail.entries; entry = entry; at = at_end trail.entries entry; is = sym (pair_is (goal.at.returns-clause-visit c).After-guard-other pair found); low = omega arith } in
    (refl, subst (λ (t : TrailState). (pair : Pair) → slice_get c.args.store.now.pairs c.args.watch.clause ≡ Some pair → IsMade t.entries (guard pair c.args.watch.slot) t.level) (sym c.force.ensures.forced) made)
