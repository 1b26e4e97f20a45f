use Rattle.std.proofs.Common.{◌≡◌, ◌+◌, ◌++◌, ◌∷◌, [], All, take, get_or, length, map, ap, sym, ◌∙◌, subst, arith}
use Rattle.std.specs.List.{IsDistinct}
use Rattle.std.proofs.lemmas.List.{take_all, append-nil, length-append, map-append}
use Rattle.std.proofs.lemmas.List.Elements.{All-push, All-nil}
use Rattle.sat_clauses.specs.Literals.{same_literal}
use Rattle.sat_clauses.specs.ClauseLists.{literal_lists}
use Rattle.sat_clauses.specs.Derivations.{Follow, Makes, resolution_of}
use Rattle.derivation_checker.specs.Faults.{IfFault, StepHasFault, StepsHaveFault}
use Rattle.derivation_checker.proofs.StepLemmas.{steps_fault, steps_more, lists_push, handed_on, if_err, if_fault}
use Rattle.derivation_checker.proofs.check.make_clauses.Goals as goal

pub loop-step-init : goal.loop-step-init
loop-step-init c = (
  ap (λ made. c.args.clauses.now ++ literal_lists made) c.new-made.ensures.items ∙ append-nil c.args.clauses.now,
  subst (λ made. All (IsDistinct same_literal) (literal_lists made)) (sym c.new-made.ensures.items) (All-nil (IsDistinct same_literal)),
  ap length c.new-made.ensures.items,
)

pub make_clause-requires : goal.make_clause-requires
make_clause-requires c = subst (λ made. All (IsDistinct same_literal) (literal_lists made)) (sym c.as_slice.ensures.value) c.loop-step.invariant.1

pub returns-in_err-clause-clause-fault : goal.returns-in_err-clause-clause-fault
returns-in_err-clause-clause-fault c =
    let known = c.args.clauses.now ++ literal_lists c.loop-step.made.items in
    let place = c.loop-step.step-index in
    let step = c.step-item.result in
    let error = c.in_err-clause.field-0.0 in
    let those : known ≡ c.args.clauses.now ++ literal_lists c.as_slice.result.now = ap (λ made. c.args.clauses.now ++ literal_lists made) (sym c.as_slice.ensures.value) in
    let number : length c.as_slice.result.now ≡ place = ap length c.as_slice.ensures.value ∙ c.loop-step.invariant.2 in
    let fault : IfFault error (StepsHaveFault c.args.clauses.now (map resolution_of c.args.steps.now)) =
    if_fault error (StepHasFault (c.args.clauses.now ++ literal_lists c.as_slice.result.now) (length c.as_slice.result.now) (resolution_of step)) (StepsHaveFault c.args.clauses.now (map resolution_of c.args.steps.now))
    (λ f has. steps_fault c.args.clauses.now known c.args.steps.now place step c.loop-step-test.true c.loop-step.invariant.0 f
    (subst (λ s. StepHasFault known place (resolution_of s) f) c.step-item.is (subst (λ n. StepHasFault known n (resolution_of step) f) number (subst (λ k. StepHasFault k (length c.as_slice.result.now) (resolution_of step) f) (sym those) has))))
    c.in_err-clause.ensures.fault in
    if_err c.from_residual.result (λ e. IfFault e (StepsHaveFault c.args.clauses.now (map resolution_of c.args.steps.now)))
    (handed_on c.from_residual.result error (λ e. IfFault e (StepsHaveFault c.args.clauses.now (map resolution_of c.args.steps.now))) c.from_residual.ensures.1 fault)

pub loop-step-preserved : goal.loop-step-preserved
loop-step-preserved c =
    let clauses = c.args.clauses.now in
    let before = c.loop-step.made.items in
    let clause = c.in_ok-clause.clause in
    let step = c.step-item.result in
    let known = clauses ++ literal_lists before in
    let items : c.push.new.self.items ≡ before ++ clause ∷ [] = c.in-Ok.ensures.items in
    let makes : Makes known (resolution_of (get_or c.args.steps.now c.loop-step.step-index step)) clause.items =
    subst (λ s. Makes known (resolution_of s) clause.items) c.step-item.is (subst (λ made. Makes (clauses ++ literal_lists made) (resolution_of step) clause.items) c.as_slice.ensures.value c.in_ok-clause.ensures.made) in
    let all : known ++ clause.items ∷ [] ≡ clauses ++ literal_lists c.push.new.self.items = sym (lists_push clauses before clause) ∙ ap (λ made. clauses ++ literal_lists made) (sym items) in
    let lists : literal_lists c.push.new.self.items ≡ literal_lists before ++ clause.items ∷ [] = ap literal_lists items ∙ map-append (λ c. c.items) before (clause ∷ []) in (
      subst (Follow clauses (map resolution_of (take (c.loop-step.step-index + 1) c.args.steps.now))) all (steps_more clauses known c.args.steps.now c.loop-step.step-index step c.loop-step-test.true c.loop-step.invariant.0 clause.items makes),
      subst (All (IsDistinct same_literal)) (sym lists) (All-push (IsDistinct same_literal) (literal_lists before) clause.items c.loop-step.invariant.1 c.in_ok-clause.ensures.distinct),
      ap length items ∙ length-append before (clause ∷ []) ∙ ap (λ n. n + 1) c.loop-step.invariant.2,
    )

pub returns-clause-made : goal.returns-clause-made
returns-clause-made c =
    subst (λ steps. Follow c.args.clauses.now (map resolution_of steps) (c.args.clauses.now ++ literal_lists c.loop-step.made.items)) (take_all c.loop-step.step-index c.args.steps.now c.loop-step-test.false) c.loop-step.invariant.0

pub returns-clause-count : goal.returns-clause-count
returns-clause-count c = let place = c.loop-step.invariant.2 in omega arith
