use Rattle.std.proofs.Common.{◌≡◌, ℕ, suc, ◌<◌, ◌-◌, ◌++◌, ◌∷◌, [], false, List, All, Some, None, IsSome, IfSome, IfNone, IsTrue, length, take, get_or, slice_get, refl, sym, subst, ap, ◌∙◌, arith, inl, inr}
use Rattle.std.proofs.lemmas.Bool.{false≢true}
use Rattle.std.proofs.lemmas.List.{take_all}
use Rattle.std.proofs.lemmas.Option.{slice_get-get_or, slice_get_within, same_Some}
use Rattle.sat_clauses.specs.declared.derivation.Link.{Link}
use Rattle.sat_clauses.specs.Literals.{IsLiteral, opposite}
use Rattle.sat_clauses.specs.ClauseLists.{IsClause, has, without, resolvent}
use Rattle.sat_clauses.specs.Derivations.{Chain}
use Rattle.sat_clauses.proofs.DerivationLemmas.{Chain-push}
use Rattle.sat_clauses.proofs.SetLemmas.{All-resolvent}
use Rattle.sat_solver.specs.declared.entry.Entry.{Entry}
use Rattle.sat_solver.specs.declared.lesson.Lesson.{Lesson}
use Rattle.sat_solver.specs.Entries.{IsFalseClause, IsForced, Forces}
use Rattle.sat_solver.specs.Lessons.{Asserts, Stops, IsSecond}
use Rattle.sat_solver.proofs.LessonLemmas.{false_later, nothing_left, step_over, step_through, leads_on, asserts_below, decision_below, teach_lesson}
use Rattle.sat_solver.proofs.analysis.analyze.Goals as goal
use Rattle.sat_solver.proofs.analysis.analyze.Goals.{In-back}

-- the entry that is met
abbrev met : List Entry → ℕ → Entry
met entries place = get_or entries (place - 1) (record { lit = record { var = 0; positive = false }; level = 0; reason = None })

at : (c : In-back) → slice_get c.args.trail.now.entries (c.back.place - 1) ≡ Some (met c.entries-entries.result.now c.back.place)
at c = ap (λ es. slice_get es (c.back.place - 1)) (sym c.entries-entries.ensures.entries) ∙ slice_get-get_or c.entries-entries.result.now (c.back.place - 1) _ (omega arith)

-- the clause is false among the entries up to the one that is met
falsified : (c : In-back) → IsFalseClause (take (suc (c.back.place - 1)) c.args.trail.now.entries) c.back.making.clause
falsified c =
    let same : c.back.place ≡ suc (c.back.place - 1) = omega arith in
    subst (λ n. IsFalseClause (take n c.args.trail.now.entries) c.back.making.clause) same c.back.invariant.falsified

forced_by : (c : In-back) (reason : ℕ) → (met c.entries-entries.result.now c.back.place).reason ≡ Some reason → IsForced c.args.store.now.clauses (take (c.back.place - 1) c.args.trail.now.entries) (met c.entries-entries.result.now c.back.place)
forced_by c reason is = c.requires.reasons (c.back.place - 1) (met c.entries-entries.result.now c.back.place) (at c) (subst IsSome (sym is) refl)

pub start-requires : goal.start-requires
start-requires c = c.clause.ensures.clause

pub back-init : goal.back-init
back-init c =
    let entries = c.args.trail.now.entries in
    let start = c.start.new.self.clause in
    let begins : c.clause.result.now ≡ start = sym c.in_ok-start.ensures in
    let here : c.requires.conflict.clause ≡ start = same_Some c.requires.conflict.clause start (sym c.requires.conflict.found ∙ c.clause.ensures.found ∙ ap (λ xs. Some xs) begins) in
    let whole : entries ≡ take (length c.entries-entries.result.now) entries = sym (take_all (length c.entries-entries.result.now) entries (omega (arith, ap length c.entries-entries.ensures.entries))) in
    record {
      falsified = subst (λ es. IsFalseClause es start) whole (subst (IsFalseClause entries) here c.requires.conflict.falsified);
      literals = subst (All IsLiteral) begins c.clause.ensures.clause.literals;
      chain = rw c.new-chain.ensures.items refl;
    }

pub measure-requires-clause-falsified : goal.measure-requires-clause-falsified
measure-requires-clause-falsified c = false_later c.args.trail.now.entries c.back.place c.back.making.clause c.back.invariant.falsified

pub clause-requires-in-Some-reason : goal.clause-requires-in-Some-reason
clause-requires-in-Some-reason c =
    let forced = forced_by (goal.at.clause-requires-in-Some-reason c).In-back c.in-Some-reason.reason c.in-Some-reason.is in
    let same : forced.place ≡ c.in-Some-reason.reason = same_Some forced.place c.in-Some-reason.reason (sym forced.reason ∙ c.in-Some-reason.is) in
    omega (arith, same, slice_get_within c.args.store.now.clauses forced.place forced.clause forced.found)

pub back-preserved-in_ok-push : goal.back-preserved-in_ok-push
back-preserved-in_ok-push c =
    let body = (goal.at.back-preserved-in_ok-push c).In-back in
    let clauses = c.args.store.now.clauses in
    let entries = c.args.trail.now.entries in
    let place = c.back.place - 1 in
    let entry = met c.entries-entries.result.now c.back.place in
    let keys = c.back.making.clause in
    let reason = c.in-Some-reason.reason in
    let other = c.clause-in-Some-reason.result.now in
    let by = forced_by body reason c.in-Some-reason.is in
    let same : by.place ≡ reason = same_Some by.place reason (sym by.reason ∙ c.in-Some-reason.is) in
    let one : by.clause ≡ other = same_Some by.clause other (sym by.found ∙ ap (slice_get clauses) same ∙ c.clause-in-Some-reason.ensures.found) in
    let forced : IsForced clauses (take place entries) entry = record { place = reason; clause = other; reason = c.in-Some-reason.is; found = c.clause-in-Some-reason.ensures.found; forces = subst (λ d. Forces (take place entries) d entry.lit) one by.forces } in
    let there : IsTrue (has keys (opposite entry.lit)) = subst (λ p. IsTrue (has keys p)) c.opposite-pivot.ensures (sym c.contains.ensures ∙ c.if-contains.true) in
    let link : Link = record { pivot = opposite entry.lit; clause = reason } in
    let made : c.resolve.new.self.clause ≡ resolvent (opposite entry.lit) keys other = c.in_ok-resolve.ensures ∙ ap (λ p. resolvent p keys other) c.opposite-pivot.ensures in
    let links : c.push.new.self.items ≡ c.back.chain.items ++ link ∷ [] = c.in_ok-push.ensures.items ∙ ap (λ p. c.back.chain.items ++ record { pivot = p; clause = reason } ∷ []) c.opposite-pivot.ensures in
    let start = c.start.new.self.clause in
    record {
      falsified = subst (IsFalseClause (take place entries)) (sym made) (step_through entries c.requires.trail.fresh place entry (at body) keys (falsified body) other forced.forces);
      literals = subst (All IsLiteral) (sym made) (All-resolvent IsLiteral (opposite entry.lit) keys other c.back.invariant.literals c.clause-in-Some-reason.ensures.clause.literals);
      chain = subst (λ ls. Chain clauses ls start c.resolve.new.self.clause) (sym links) (subst (Chain clauses (c.back.chain.items ++ link ∷ []) start) (sym made) (Chain-push clauses c.back.chain.items link start keys (resolvent (opposite entry.lit) keys other) c.back.invariant.chain (leads_on clauses (take place entries) entry keys forced there)));
    }

-- where no lesson is given the entry has a reason
pub back-preserved-in_default-reason : goal.back-preserved-in_default-reason
back-preserved-in_default-reason c =
    let resolves : IfNone c.in_ok-measured.field-0 (IsSome (met c.entries-entries.result.now c.back.place).reason) = c.in_ok-measured.ensures.resolves in
    let reasoned : IsSome (met c.entries-entries.result.now c.back.place).reason = subst (λ o. IfNone o (IsSome (met c.entries-entries.result.now c.back.place).reason)) c.in_default.is resolves in
    absurd (false≢true (subst IsSome c.in_default-reason.is reasoned))

pub back-preserved : goal.back-preserved
back-preserved c =
    let body = (goal.at.back-preserved c).In-back in
    let entry = met c.entries-entries.result.now c.back.place in
    let keys = c.back.making.clause in
    let absent : has keys (opposite entry.lit) ≡ false = ap (has keys) (sym c.opposite-pivot.ensures) ∙ sym c.contains.ensures ∙ c.if-contains.false in
    record {
      falsified = step_over c.args.trail.now.entries c.requires.trail.fresh (c.back.place - 1) entry (at body) keys (falsified body) absent;
      literals = c.back.invariant.literals;
      chain = c.back.invariant.chain;
    }

pub returns-in-Some-clause-teaches : goal.returns-in-Some-clause-teaches
returns-in-Some-clause-teaches c =
    let body = (goal.at.returns-in-Some-clause-teaches c).In-back in
    let clauses = c.args.store.now.clauses in
    let trail = c.args.trail.now in
    let place = c.back.place - 1 in
    let entry = met c.entries-entries.result.now c.back.place in
    let keys = c.back.making.clause in
    let measured = c.in-Some.measured in
    let pivot = c.opposite-pivot.result in
    let level = measured.level in
    let there : IsTrue (has keys (opposite entry.lit)) = subst (λ p. IsTrue (has keys p)) c.opposite-pivot.ensures (sym c.contains.ensures ∙ c.if-contains.true) in
    let stops : Stops trail keys entry measured = subst (λ o. IfSome o (Stops trail keys entry)) c.in-Some.is c.in_ok-measured.ensures.stops in
    let below : level < entry.level = elim stops.lower [
      | inl h ↦ h
      | inr none ↦ decision_below trail c.requires.trail place entry (at body) keys there (falsified body) level stops.others stops.least none
    ] in
    let asserts : Asserts trail keys pivot level = subst (λ p. Asserts trail keys p level) (sym c.opposite-pivot.ensures) (asserts_below trail c.requires.trail place entry (at body) keys there (falsified body) level stops.others stops.least below) in
    let second : IsSecond trail.entries (without keys pivot) level measured.second = subst (λ p. IsSecond trail.entries (without keys p) level measured.second) (sym c.opposite-pivot.ensures) stops.second in
    let start = c.start.new.self.clause in
    let found : slice_get clauses c.args.conflict ≡ Some start = c.clause.ensures.found ∙ ap (λ xs. Some xs) (sym c.in_ok-start.ensures) in
    let lesson : Lesson = record { clause = measured.clause; chain = c.back.chain; asserted = Some (record { lit = pivot; level = level; second = measured.second }) } in
    teach_lesson clauses trail c.args.conflict start keys c.back.chain.items (Some (record { lit = pivot; level = level; second = measured.second })) found c.back.invariant.chain (false_later trail.entries c.back.place keys c.back.invariant.falsified) asserts second lesson stops.literals refl refl

pub returns-in-Some-clause-clause : goal.returns-in-Some-clause-clause
returns-in-Some-clause-clause c =
    let keys = c.back.making.clause in
    let entry = met c.entries-entries.result.now c.back.place in
    let stops : Stops c.args.trail.now keys entry c.in-Some.measured = subst (λ o. IfSome o (Stops c.args.trail.now keys entry)) c.in-Some.is c.in_ok-measured.ensures.stops in
    subst IsClause (sym stops.literals) (record { literals = c.back.invariant.literals; distinct = stops.distinct })

pub returns-clause-teaches : goal.returns-clause-teaches
returns-clause-teaches c =
    let clauses = c.args.store.now.clauses in
    let trail = c.args.trail.now in
    let keys = c.back.making.clause in
    let none : c.back.place ≡ 0 = omega arith in
    let end : IsFalseClause [] keys = subst (λ n. IsFalseClause (take n trail.entries) keys) none c.back.invariant.falsified in
    let start = c.start.new.self.clause in
    let found : slice_get clauses c.args.conflict ≡ Some start = c.clause.ensures.found ∙ ap (λ xs. Some xs) (sym c.in_ok-start.ensures) in
    let lesson : Lesson = record { clause = c.in_ok-literals.field-0; chain = c.back.chain; asserted = None } in
    teach_lesson clauses trail c.args.conflict start keys c.back.chain.items None found c.back.invariant.chain (false_later trail.entries c.back.place keys c.back.invariant.falsified) (nothing_left keys end) tt lesson c.in_ok-literals.ensures.literals refl refl

pub returns-clause-clause : goal.returns-clause-clause
returns-clause-clause c =
    let literals : All IsLiteral c.in_ok-literals.field-0.items = subst (All IsLiteral) (sym c.in_ok-literals.ensures.literals) c.back.invariant.literals in
    record { literals = literals; distinct = c.in_ok-literals.ensures.distinct }
