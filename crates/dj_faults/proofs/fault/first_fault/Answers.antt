use Rattle.std.proofs.Common.{◌≡◌, ℕ, ◌<◌, Option, true, false, Some, refl, subst}
use Rattle.dj_tree.specs.Plain.{plain_source}
use Rattle.dj_calculus.specs.Faults.{fault_rank}
use Rattle.dj_faults.specs.LeastPlace.{IsLeastPlace}
use Rattle.dj_faults.proofs.FirstFaults.{at_rank, none_next, accepted, first_is}
use Rattle.dj_faults.proofs.fault.first_fault.Goals as goal

differ : true ≡ false → ⊥
differ e = absurd cc

stands_at : (P : ℕ → Type 0) (o : Option ℕ) (at : ℕ) → o ≡ Some at → IsLeastPlace P o → P at
stands_at P o at e is = let it : IsLeastPlace P (Some at) = subst (IsLeastPlace P) e is in it.stands

pub least_place-requires-clause-earlier : goal.least_place-requires-clause-earlier
least_place-requires-clause-earlier c = λ other at less. c.loop-fault.invariant other at (subst (λ (k : ℕ). fault_rank other < k) (at_rank c.loop-fault.fault-index _ c.loop-fault-test.true) less)

pub returns-in-Some-clause-accepted : goal.returns-in-Some-clause-accepted
returns-in-Some-clause-accepted c =
    (λ e. absurd (differ e), λ all. absurd (all _ c.in-Some.at (stands_at _ _ c.in-Some.at c.in-Some.is c.in_ok-at.ensures)))

pub returns-in-Some-clause-first : goal.returns-in-Some-clause-first
returns-in-Some-clause-first c =
    first_is (plain_source c.args.source.now) c.loop-fault.fault-index _ c.in-Some.at c.loop-fault-test.true c.loop-fault.invariant (subst (IsLeastPlace _) c.in-Some.is c.in_ok-at.ensures)

pub loop-fault-preserved : goal.loop-fault-preserved
loop-fault-preserved c =
    none_next (plain_source c.args.source.now) c.loop-fault.fault-index _ c.loop-fault-test.true c.loop-fault.invariant (subst (IsLeastPlace _) c.in_default.is c.in_ok-at.ensures)

pub returns-clause-accepted : goal.returns-clause-accepted
returns-clause-accepted c = (λ _. accepted (plain_source c.args.source.now) c.loop-fault.fault-index c.loop-fault-test.false c.loop-fault.invariant, λ _. refl)
