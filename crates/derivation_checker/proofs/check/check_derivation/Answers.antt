use Rattle.std.proofs.Common.{◌≡◌, ◌≢◌, ◌-◌, [], length, arith, map, slice_get, ap, sym, ◌∙◌, subst}
use Rattle.std.proofs.lemmas.Bool.{eqb-true, eqb-false}
use Rattle.sat_clauses.specs.Derivations.{resolution_of, steps_of}
use Rattle.derivation_checker.specs.declared.fault.CheckError.TheVariants.{NoMemory}
use Rattle.derivation_checker.specs.Faults.{IfFault, StepsHaveFault, FirstFault}
use Rattle.derivation_checker.specs.Faults.FirstFault.{no_steps, in_step}
use Rattle.derivation_checker.proofs.StepLemmas.{handed_on, if_err, if_fault, none_there, no_steps_there, EndsIn, ends_in}
use Rattle.derivation_checker.proofs.FaultLemmas.{memory_alone, first_of_steps, first_of_right, derived_last, derives_empty, ends_in_fault}
use Rattle.derivation_checker.proofs.check.check_derivation.Goals as goal

pub returns-in_err-made-clause-derives : goal.returns-in_err-made-clause-derives
returns-in_err-made-clause-derives c =
    λ derives.
    let error = c.in_err-made.field-0.0 in
    let fault : IfFault error (StepsHaveFault c.args.clauses.now (steps_of c.args.derivation.now)) =
    subst (λ ss. IfFault error (StepsHaveFault c.args.clauses.now (map resolution_of ss))) c.as_slice.ensures.value c.in_err-made.ensures.fault in
    if_err c.from_residual.result (λ e. e ≡ NoMemory)
    (handed_on c.from_residual.result error (λ e. e ≡ NoMemory) c.from_residual.ensures.1 (memory_alone error c.args.clauses.now (steps_of c.args.derivation.now) derives fault))

pub returns-in_err-made-clause-fault : goal.returns-in_err-made-clause-fault
returns-in_err-made-clause-fault c =
    let clauses = c.args.clauses.now in
    let steps = steps_of c.args.derivation.now in
    let error = c.in_err-made.field-0.0 in
    let fault : IfFault error (StepsHaveFault clauses steps) =
    subst (λ ss. IfFault error (StepsHaveFault clauses (map resolution_of ss))) c.as_slice.ensures.value c.in_err-made.ensures.fault in
    if_err c.from_residual.result (λ e. IfFault e (FirstFault clauses steps))
    (handed_on c.from_residual.result error (λ e. IfFault e (FirstFault clauses steps)) c.from_residual.ensures.1
    (if_fault error (StepsHaveFault clauses steps) (FirstFault clauses steps) (λ f h. in_step f h) fault))

pub returns-in_err-made-clause-faulty : goal.returns-in_err-made-clause-faulty
returns-in_err-made-clause-faulty c =
    λ first is_first.
    let clauses = c.args.clauses.now in
    let steps = steps_of c.args.derivation.now in
    let error = c.in_err-made.field-0.0 in
    let fault : IfFault error (StepsHaveFault clauses steps) =
    subst (λ ss. IfFault error (StepsHaveFault clauses (map resolution_of ss))) c.as_slice.ensures.value c.in_err-made.ensures.fault in
    handed_on c.from_residual.result error (λ e. IfFault e (λ f. f ≡ first)) c.from_residual.ensures.1
    (if_fault error (StepsHaveFault clauses steps) (λ f. f ≡ first) (λ f h. first_of_steps clauses steps f first h is_first) fault)

pub returns-in-None-clause-fault : goal.returns-in-None-clause-fault
returns-in-None-clause-fault c =
    let none : map resolution_of c.as_slice.result.now ≡ [] =
    no_steps_there c.args.clauses.now c.as_slice.result.now c.in_ok-made.made.items c.in_ok-made.ensures.count (c.in-None.ensures.value ∙ ap (λ m. slice_get m (length m - 1)) c.deref.ensures.value) in
    no_steps (ap (map resolution_of) (sym c.as_slice.ensures.value) ∙ none)

pub returns-in-Some-clause-accepted : goal.returns-in-Some-clause-accepted
returns-in-Some-clause-accepted c =
    let ends : EndsIn c.args.clauses.now (steps_of c.args.derivation.now) c.in-Some.last.now.items =
    ends_in c.args.clauses.now c.args.derivation.now.steps.items c.as_slice.result.now c.in_ok-made.made.items c.deref.result.now c.in-Some.last.now c.as_slice.ensures.value c.deref.ensures.value c.in_ok-made.ensures.count c.in-Some.ensures.value c.in_ok-made.ensures.made in
    let none_left : c.in-Some.last.now.len ≡ 0 = eqb-true c.in-Some.last.now.len 0 (sym c.is_empty.ensures ∙ c.if-is_empty.true) in
    let empty : c.in-Some.last.now.items ≡ [] = let len = c.in-Some.last.now.ok.0 in none_there c.in-Some.last.now.items (omega arith) in
    derives_empty c.args.clauses.now (steps_of c.args.derivation.now) c.in-Some.last.now.items ends empty

pub returns-in-Some-clause-faulty : goal.returns-in-Some-clause-faulty
returns-in-Some-clause-faulty c =
    λ first is_first.
    let ends : EndsIn c.args.clauses.now (steps_of c.args.derivation.now) c.in-Some.last.now.items =
    ends_in c.args.clauses.now c.args.derivation.now.steps.items c.as_slice.result.now c.in_ok-made.made.items c.deref.result.now c.in-Some.last.now c.as_slice.ensures.value c.deref.ensures.value c.in_ok-made.ensures.count c.in-Some.ensures.value c.in_ok-made.ensures.made in
    let none_left : c.in-Some.last.now.len ≡ 0 = eqb-true c.in-Some.last.now.len 0 (sym c.is_empty.ensures ∙ c.if-is_empty.true) in
    let empty : c.in-Some.last.now.items ≡ [] = let len = c.in-Some.last.now.ok.0 in none_there c.in-Some.last.now.items (omega arith) in
    (first_of_right c.args.clauses.now (steps_of c.args.derivation.now) c.in-Some.last.now.items ends first is_first).1 empty

pub returns-clause-derives : goal.returns-clause-derives
returns-clause-derives c =
    λ derives.
    let ends : EndsIn c.args.clauses.now (steps_of c.args.derivation.now) c.in-Some.last.now.items =
    ends_in c.args.clauses.now c.args.derivation.now.steps.items c.as_slice.result.now c.in_ok-made.made.items c.deref.result.now c.in-Some.last.now c.as_slice.ensures.value c.deref.ensures.value c.in_ok-made.ensures.count c.in-Some.ensures.value c.in_ok-made.ensures.made in
    let other : c.in-Some.last.now.items ≢ [] =
    λ e. eqb-false c.in-Some.last.now.len 0 (sym c.is_empty.ensures ∙ c.if-is_empty.false) (c.in-Some.last.now.ok.0 ∙ ap length e) in
    absurd (other (derived_last c.args.clauses.now (steps_of c.args.derivation.now) c.in-Some.last.now.items ends derives))

pub returns-clause-fault : goal.returns-clause-fault
returns-clause-fault c =
    let ends : EndsIn c.args.clauses.now (steps_of c.args.derivation.now) c.in-Some.last.now.items =
    ends_in c.args.clauses.now c.args.derivation.now.steps.items c.as_slice.result.now c.in_ok-made.made.items c.deref.result.now c.in-Some.last.now c.as_slice.ensures.value c.deref.ensures.value c.in_ok-made.ensures.count c.in-Some.ensures.value c.in_ok-made.ensures.made in
    let other : c.in-Some.last.now.items ≢ [] =
    λ e. eqb-false c.in-Some.last.now.len 0 (sym c.is_empty.ensures ∙ c.if-is_empty.false) (c.in-Some.last.now.ok.0 ∙ ap length e) in
    ends_in_fault c.args.clauses.now (steps_of c.args.derivation.now) c.in-Some.last.now.items ends other

pub returns-clause-faulty : goal.returns-clause-faulty
returns-clause-faulty c =
    λ first is_first.
    let ends : EndsIn c.args.clauses.now (steps_of c.args.derivation.now) c.in-Some.last.now.items =
    ends_in c.args.clauses.now c.args.derivation.now.steps.items c.as_slice.result.now c.in_ok-made.made.items c.deref.result.now c.in-Some.last.now c.as_slice.ensures.value c.deref.ensures.value c.in_ok-made.ensures.count c.in-Some.ensures.value c.in_ok-made.ensures.made in
    (first_of_right c.args.clauses.now (steps_of c.args.derivation.now) c.in-Some.last.now.items ends first is_first).0
