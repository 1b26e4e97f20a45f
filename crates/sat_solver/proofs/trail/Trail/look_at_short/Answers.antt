use Rattle.std.proofs.Common.{◌≡◌, ◌≤◌, ◌<◌, ◌+◌, ℕ, true, Some, length, get_or, slice_get, sym, ap, subst, ◌∙◌, inl, inr, ◌⊎◌, arith}
use Rattle.std.proofs.lemmas.Bool.{cases_lt}
use Rattle.std.proofs.lemmas.Option.{same_Some, slice_get-get_or, slice_get_within}
use Rattle.sat_solver.specs.Entries.{IsConflict}
use Rattle.sat_solver.specs.Pairing.{GoesOn, Paired, IsHeld, HoldsFirst}
use Rattle.sat_solver.proofs.PairingLemmas.{held_higher, paired_see}
use Rattle.sat_solver.proofs.WalkLemmas.{goes_refl, goes_trans, holds_on}
use Rattle.sat_solver.proofs.trail.Trail.look_at_short.Goals as goal
use Rattle.sat_solver.proofs.trail.Trail.look_at_short.Goals.{After-hold, then-level-eq0, else-level-eq0}

pub short-init : goal.short-init
short-init c = record {
  goes_on = goes_refl c.args.self.now c.args.store.now c.requires;
  holds = λ k place h at. held_higher c.args.self.now.entries c.args.store.now.clauses 0 c.args.self.now.level place (omega arith) (c.requires.seen k place (omega (arith, h, c.seen-at.ensures)) at);
}

goes : (c : After-hold) → GoesOn c.args.self.now c.args.store.now c.hold.new.self c.short.store
goes c = goes_trans c.args.self.now c.short.self c.hold.new.self c.args.store.now c.short.store c.short.store c.short.invariant.goes_on c.hold.ensures.goes_on

-- the place that was looked at
place_is : (c : After-hold) → slice_get c.short.store.short c.short.at ≡ Some (get_or c.short-in-short.result.now c.short.at 0)
place_is c = ap (λ s. slice_get s c.short.at) (sym c.short-in-short.ensures) ∙ slice_get-get_or c.short-in-short.result.now c.short.at 0 (omega (arith, c.short-test.true, ap length c.short-in-short.ensures, ap length c.short-at-end.ensures, ap length c.short.invariant.goes_on.short))

held : (c : After-hold) → c.hold.result ≡ true → HoldsFirst (c.short.at + 1) c.hold.new.self.entries c.short.store c.hold.new.self.level
held c is = λ k place h at. by k place h at (cases_lt k c.short.at)
  where
    by : (k place : ℕ) → k < c.short.at + 1 → slice_get c.short.store.short k ≡ Some place → (k < c.short.at) ⊎ (c.short.at ≤ k) → IsHeld c.hold.new.self.entries c.short.store.clauses c.hold.new.self.level place
    by k place h at (inl below) = holds_on c.short.self c.hold.new.self c.short.store c.short.store c.short.at c.hold.ensures.goes_on c.short.invariant.holds k place below at
    by k place h at (inr past) =
        let here : k ≡ c.short.at = omega arith in
        let same : get_or c.short-in-short.result.now c.short.at 0 ≡ place = same_Some _ place (sym (place_is c) ∙ ap (slice_get c.short.store.short) (sym here) ∙ at) in
        subst (IsHeld c.hold.new.self.entries c.short.store.clauses c.hold.new.self.level) same (c.hold.ensures.held is)

pub short-preserved : goal.short-preserved
short-preserved c =
    let body = (goal.at.short-preserved c).After-hold in
    let on = goes body in
    let all = held body c.if-not-hold.false in
    elim c.if-level-eq0.branch [
      | then-level-eq0 w ↦
          let ground_level : c.hold.new.self.level ≡ 0 = sym c.level.ensures ∙ w.if-level-eq0.true in
          let few : c.short.at + 1 ≤ length c.short.store.short = omega (arith, slice_get_within c.short.store.short c.short.at _ (place_is body)) in
          let paired : Paired c.hold.new.self (record c.short.store { seen = c.short.at + 1 }) = paired_see c.hold.new.self c.short.store (c.short.at + 1) on.paired few (subst (HoldsFirst (c.short.at + 1) c.hold.new.self.entries c.short.store) ground_level all) in
          rw (w.store-is ∙ w.see.ensures) (record {
            goes_on = record { extends = on.extends; level = on.level; vars = on.vars; worked = on.worked; clauses = on.clauses; short = on.short; paired = paired };
            holds = all;
          })
      | else-level-eq0 w ↦ rw w.store-is (record { goes_on = on; holds = all })
    ]

pub hold-requires-clause-short : goal.hold-requires-clause-short
hold-requires-clause-short c = c.short.invariant.goes_on.paired.watching.shorts c.short.at _ (ap (λ s. slice_get s c.short.at) (sym c.short-in-short.ensures) ∙ slice_get-get_or c.short-in-short.result.now c.short.at 0 (omega (arith, c.short-test.true, ap length c.short-in-short.ensures, ap length c.short-at-end.ensures, ap length c.short.invariant.goes_on.short)))

pub returns-then-not-hold-clause-goes_on : goal.returns-then-not-hold-clause-goes_on
returns-then-not-hold-clause-goes_on c = goes (goal.at.returns-then-not-hold-clause-goes_on c).After-hold

pub returns-then-not-hold-clause-conflict : goal.returns-then-not-hold-clause-conflict
returns-then-not-hold-clause-conflict c = subst (λ cs. IsConflict c.hold.new.self.entries cs (get_or c.short-in-short.result.now c.short.at 0)) c.short.invariant.goes_on.clauses (c.hold.ensures.conflict c.if-not-hold.true)

pub returns-clause-held : goal.returns-clause-held
returns-clause-held c = λ k place h at. c.short.invariant.holds k place (omega (arith, h, c.short-test.false, ap length c.short-at-end.ensures, ap length c.short.invariant.goes_on.short)) at
