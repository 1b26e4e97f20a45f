use Rattle.std.proofs.Common.{◌≡◌, ◌++◌, ◌&&◌, false, true, get_or, length, refl, sym, ◌∙◌, subst}
use Rattle.sat_clauses.specs.declared.derivation.Link.{Link}
use Rattle.sat_clauses.specs.Literals.{opposite}
use Rattle.sat_clauses.specs.ClauseLists.{has, literal_lists}
use Rattle.sat_clauses.specs.Derivations.{Makes, resolution_of}
use Rattle.sat_clauses.proofs.ListLemmas.{joined_distinct}
use Rattle.derivation_checker.specs.declared.fault.StepFault.TheVariants.{UnknownClause, NoPivot}
use Rattle.derivation_checker.specs.Faults.{LinkHasFault}
use Rattle.derivation_checker.specs.Faults.LinkHasFault.{unknown, no_pivot}
use Rattle.derivation_checker.specs.Faults.StepHasFault.{unknown_first}
use Rattle.derivation_checker.proofs.StepLemmas.{past_end, step_fault, step_makes, chain_more}
use Rattle.derivation_checker.proofs.check.make_clause.Goals as goal

pub returns-in_default-clause-fault : goal.returns-in_default-clause-fault
returns-in_default-clause-fault c =
    unknown_first (past_end (c.args.clauses.now ++ literal_lists c.args.made.now) c.args.step.now.first c.in_default.ensures.known)

pub loop-place-init : goal.loop-place-init
loop-place-init c = refl

pub returns-in_default-known_clause-clause-fault :
    goal.returns-in_default-known_clause-clause-fault
returns-in_default-known_clause-clause-fault c =
    let known = c.args.clauses.now ++ literal_lists c.args.made.now in
    let number = length c.args.made.now in
    let links = c.deref-link-items.result.now in
    let place = c.loop-place.place in
    let none : Link = record { pivot = record { var = 0; positive = false }; clause = 0 } in
    let link : Link = get_or links place none in
    let here : LinkHasFault known number place link c.loop-place.making (UnknownClause number link.clause) =
    unknown (past_end known link.clause c.in_default-known_clause.ensures.known) in
    step_fault known c.args.step.now links place c.in-Some.start.now c.start.new.self c.loop-place.making (sym c.in-Some.ensures.known) (c.in_ok-start.ensures.ok ∙ joined_distinct c.in-Some.start.now c.in-Some.ensures.distinct) c.deref-link-items.ensures.value c.loop-place.invariant number none (UnknownClause number link.clause) c.loop-place-test.true here

pub returns-then-not-branch-clause-fault : goal.returns-then-not-branch-clause-fault
returns-then-not-branch-clause-fault c =
    let known = c.args.clauses.now ++ literal_lists c.args.made.now in
    let number = length c.args.made.now in
    let links = c.deref-link-items.result.now in
    let place = c.loop-place.place in
    let none : Link = record { pivot = record { var = 0; positive = false }; clause = 0 } in
    let link : Link = get_or links place none in
    let other = c.in-Some-known_clause.other.now in
    let lacks : (has c.loop-place.making link.pivot && has other (opposite link.pivot)) ≡ false = sym c.in_ok-resolve.ensures.answer ∙ c.if-not-branch.true in
    let here : LinkHasFault known number place link c.loop-place.making (NoPivot number place) =
    no_pivot other (sym c.in-Some-known_clause.ensures.known) lacks in
    step_fault known c.args.step.now links place c.in-Some.start.now c.start.new.self c.loop-place.making (sym c.in-Some.ensures.known) (c.in_ok-start.ensures.ok ∙ joined_distinct c.in-Some.start.now c.in-Some.ensures.distinct) c.deref-link-items.ensures.value c.loop-place.invariant number none (NoPivot number place) c.loop-place-test.true here

pub loop-place-preserved : goal.loop-place-preserved
loop-place-preserved c =
    let known = c.args.clauses.now ++ literal_lists c.args.made.now in
    let links = c.deref-link-items.result.now in
    let place = c.loop-place.place in
    let none : Link = record { pivot = record { var = 0; positive = false }; clause = 0 } in
    let link : Link = get_or links place none in
    let other = c.in-Some-known_clause.other.now in
    let found : c.in_ok-resolve.field-0 ≡ true = c.if-not-branch.false in
    chain_more known links place none c.start.new.self c.loop-place.making c.loop-place-test.true c.loop-place.invariant c.resolve.new.clause other (sym c.in-Some-known_clause.ensures.known) (sym c.in_ok-resolve.ensures.answer ∙ found) (c.in_ok-resolve.ensures.resolved found)

pub returns-clause-made : goal.returns-clause-made
returns-clause-made c =
    let known = c.args.clauses.now ++ literal_lists c.args.made.now in
    let same : c.loop-place.making ≡ c.in_ok-literals.field-0.items = sym c.in_ok-literals.ensures.literals in
    subst (Makes known (resolution_of c.args.step.now)) same (step_makes known c.args.step.now c.deref-link-items.result.now c.loop-place.place c.in-Some.start.now c.start.new.self c.loop-place.making (sym c.in-Some.ensures.known) (c.in_ok-start.ensures.ok ∙ joined_distinct c.in-Some.start.now c.in-Some.ensures.distinct) c.deref-link-items.ensures.value c.loop-place.invariant c.loop-place-test.false)
