use Rattle.std.proofs.Common.{◌≡◌, ◌≤◌, ◌<◌, ◌+◌, Some, length, slice_get, sym, ap, subst, ◌∙◌, arith}
use Rattle.std.proofs.lemmas.Option.{slice_get_within}
use Rattle.sat_solver.specs.Entries.{IsConflict, AllSettled}
use Rattle.sat_solver.specs.Trails.{TrailState}
use Rattle.sat_solver.specs.Pairing.{GoesOn, Paired, HoldsFirst}
use Rattle.sat_solver.proofs.AlongLemmas.{at_front}
use Rattle.sat_solver.proofs.ExtendLemmas.{extends_longer}
use Rattle.sat_solver.proofs.PairingLemmas.{made_false, opposite_of, paired_worked, all_settled}
use Rattle.sat_solver.proofs.WalkLemmas.{goes_trans, holds_on}
use Rattle.sat_solver.proofs.trail.Trail.propagate.Goals as goal
use Rattle.sat_solver.proofs.trail.Trail.propagate.Goals.{After-walk}

pub work-init : goal.work-init
work-init c = record { goes_on = c.in_default.ensures.goes_on; holds = c.in_default.ensures.held }

goes : (c : After-walk) → GoesOn c.args.self.now c.args.store.now c.walk.new.self c.walk.new.store
goes c = goes_trans c.args.self.now c.work.self c.walk.new.self c.args.store.now c.work.store c.walk.new.store c.work.invariant.goes_on c.walk.ensures.goes_on

pub walk-requires-clause-falsified : goal.walk-requires-clause-falsified
walk-requires-clause-falsified c =
    let trail = c.work.self in
    let next = c.in-Some-next_false.ensures.next in
    made_false trail.entries c.work.invariant.goes_on.paired.is_trail.fresh trail.worked next.0 c.in-Some-next_false.lit next.1 (opposite_of c.in-Some-next_false.lit next.0.lit next.2)

pub returns-in-Some-walk-clause-extends : goal.returns-in-Some-walk-clause-extends
returns-in-Some-walk-clause-extends c = (goes (goal.at.returns-in-Some-walk-clause-extends c).After-walk).extends

pub returns-in-Some-walk-clause-conflict : goal.returns-in-Some-walk-clause-conflict
returns-in-Some-walk-clause-conflict c = subst (λ cs. IsConflict c.walk.new.self.entries cs c.in-Some-walk.place) c.work.invariant.goes_on.clauses c.in-Some-walk.ensures.conflict

pub work_on-requires : goal.work_on-requires
work_on-requires c =
    let trail = c.work.self in
    let next = c.in-Some-next_false.ensures.next in
    let within : trail.worked < length trail.entries = slice_get_within trail.entries trail.worked next.0 next.1 in
    let longer = extends_longer c.work.store.clauses trail.level trail.entries c.walk.new.self.entries c.walk.ensures.goes_on.extends in
    omega (arith, within, longer, c.walk.ensures.worked)

pub work-preserved : goal.work-preserved
work-preserved c =
    let trail = c.work.self in
    let now = c.walk.new.self in
    let store = c.walk.new.store in
    let next = c.in-Some-next_false.ensures.next in
    let on = goes (goal.at.work-preserved c).After-walk in
    let at : slice_get now.entries now.worked ≡ Some next.0 = ap (slice_get now.entries) c.walk.ensures.worked ∙ ap (λ es. slice_get es trail.worked) c.walk.ensures.goes_on.extends.prefix ∙ at_front trail.entries c.walk.ensures.goes_on.extends.added trail.worked next.0 next.1 in
    let paired : Paired c.work_on.new.self store = paired_worked now store next.0 c.in-Some-next_false.lit c.work_on.new.self on.paired at next.2 c.in_default-walk.ensures.done c.work_on.ensures.worked c.work_on.ensures.trail in
    let goes_on : GoesOn c.args.self.now c.args.store.now c.work_on.new.self store = subst (λ t. Paired t store → GoesOn c.args.self.now c.args.store.now t store) (sym c.work_on.ensures.worked) (λ p. record { extends = on.extends; level = on.level; vars = on.vars; worked = omega (arith, on.worked); clauses = on.clauses; short = on.short; paired = p }) paired in
    let before : HoldsFirst (length store.short) c.work.self.entries c.work.store c.work.self.level = subst (λ s. HoldsFirst (length s) c.work.self.entries c.work.store c.work.self.level) (sym c.walk.ensures.goes_on.short) c.work.invariant.holds in
    let holds : HoldsFirst (length store.short) now.entries store now.level = holds_on c.work.self now c.work.store store (length store.short) c.walk.ensures.goes_on before in
    record {
      goes_on = goes_on;
      holds = subst (λ (t : TrailState). HoldsFirst (length store.short) t.entries store t.level) (sym c.work_on.ensures.worked) holds;
    }

pub work-smaller : goal.work-smaller
work-smaller c =
    let trail = c.work.self in
    let now = c.walk.new.self in
    let next = c.in-Some-next_false.ensures.next in
    let within : trail.worked < length trail.entries = slice_get_within trail.entries trail.worked next.0 next.1 in
    let more : c.work_on.new.self.worked ≡ now.worked + 1 = ap (λ (t : TrailState). t.worked) c.work_on.ensures.worked in
    let vars : c.work_on.new.self.vars ≡ now.vars = ap (λ (t : TrailState). t.vars) c.work_on.ensures.worked in
    let small = c.work.invariant.goes_on.paired.is_trail.small in
    omega (arith, within, more, vars, small, c.walk.ensures.worked, c.walk.ensures.goes_on.vars)

pub returns-clause-settled : goal.returns-clause-settled
returns-clause-settled c =
    let goes_on = c.work.invariant.goes_on in
    let past : length c.work.self.entries ≤ c.work.self.worked = c.in_default-next_false.ensures.next in
    subst (AllSettled c.work.self.entries) goes_on.clauses (all_settled c.work.self c.work.store goes_on.paired past c.work.invariant.holds)
