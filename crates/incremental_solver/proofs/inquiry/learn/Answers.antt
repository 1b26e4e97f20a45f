use Rattle.std.proofs.Common.{take, sym, subst, arith}
use Rattle.sat_solver.specs.declared.search.Search.{Search}
use Rattle.sat_solver.specs.Searches.{LearnsOrEnds, Learns}
use Rattle.sat_solver.proofs.CountLemmas.{rises_farther}
use Rattle.incremental_solver.specs.Inquiries.{AssumesFirst, Grows, Continues}
use Rattle.incremental_solver.proofs.AssumptionLemmas.{assumes_push, assumes_take, reasoned}
use Rattle.incremental_solver.proofs.GrowthLemmas.{grows_learnt, refutes_empty}
use Rattle.incremental_solver.proofs.inquiry.learn.Goals as goal
use Rattle.incremental_solver.proofs.inquiry.learn.Goals.{In-Ok-true}

learns : (c : In-Ok-true) → Learns c.args.search.now c.learn-learnt.new.self
learns c = subst (LearnsOrEnds c.args.search.now c.learn-learnt.new.self) c.in-Ok-true.field-0-test c.in-Ok-true.ensures.learns

pub returns-in-Ok-true-clause-grows : goal.returns-in-Ok-true-clause-grows
returns-in-Ok-true-clause-grows c =
    let old = c.args.search.now in
    let mid = c.learn-learnt.new.self in
    let l = learns (goal.at.returns-in-Ok-true-clause-grows c).In-Ok-true in
    subst (Grows old) (sym c.forget_steps.ensures.rest) (grows_learnt old (record mid { steps = c.forget_steps.new.self.steps }) l.derived.step l.clause (record { trail = l.search.trail; reasons = l.search.reasons; paired = l.search.paired; queue = l.search.queue }) l.vars l.store l.derived.makes)

pub returns-in-Ok-true-clause-turn : goal.returns-in-Ok-true-clause-turn
returns-in-Ok-true-clause-turn c =
    let old = c.args.search.now in
    let mid = c.learn-learnt.new.self in
    let l = learns (goal.at.returns-in-Ok-true-clause-turn c).In-Ok-true in
    let assumed = c.args.assumptions.now in
    let assumes : AssumesFirst assumed mid.trail.entries = subst (AssumesFirst assumed) (sym l.kept.entries) (assumes_push assumed (take l.kept.count old.trail.entries) l.kept.entry (assumes_take assumed l.kept.count old.trail.entries c.requires.assumes) (reasoned assumed (take l.kept.count old.trail.entries) l.kept.entry l.kept.reasoned)) in
    let rises = rises_farther old.trail mid.trail c.requires.search.trail l.search.trail l.vars l.farther in
    subst (λ (s : Search). Continues old s assumed 0) (sym c.forget_steps.ensures.rest) (record { farther = l.farther; rises = rises; assumes = assumes; settled = λ k lit h at. absurd (omega (arith, h)) })

pub returns-in-Ok-false-clause-turn : goal.returns-in-Ok-false-clause-turn
returns-in-Ok-false-clause-turn c =
    let old = c.args.search.now in
    let mid = c.learn-learnt.new.self in
    let ends = subst (LearnsOrEnds old mid) c.in-Ok-false.field-0-test c.in-Ok-false.ensures.learns in
    refutes_empty old.store.clauses c.args.assumptions.now ends.0.derived.step ends.0.derived.makes
