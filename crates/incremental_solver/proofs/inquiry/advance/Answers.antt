use Rattle.std.proofs.Common.{sym, subst, ◌∙◌}
use Rattle.std.proofs.lemmas.Result.{IfOk-weaker}
use Rattle.incremental_solver.specs.Inquiries.{AreTrue, TurnIs}
use Rattle.incremental_solver.proofs.AssumptionLemmas.{assumes_extend, are_true_later}
use Rattle.incremental_solver.proofs.GrowthLemmas.{turn_later}
use Rattle.incremental_solver.proofs.inquiry.advance.Goals as goal

pub decide-requires-clause-assumes : goal.decide-requires-clause-assumes
decide-requires-clause-assumes c =
    let old = c.args.search.now in
    assumes_extend c.args.assumptions.now old.store.clauses old.trail.level old.trail.entries c.propagate.new.self.trail.entries c.requires.assumes c.propagate.ensures.extends

pub decide-requires-clause-settled : goal.decide-requires-clause-settled
decide-requires-clause-settled c =
    let old = c.args.search.now in
    let extends = c.propagate.ensures.extends in
    subst (λ es. AreTrue c.args.settled es c.args.assumptions.now) (sym extends.prefix) (are_true_later c.args.settled old.trail.entries extends.added c.args.assumptions.now c.requires.settled)

pub learn-requires-clause-assumes : goal.learn-requires-clause-assumes
learn-requires-clause-assumes c =
    let old = c.args.search.now in
    assumes_extend c.args.assumptions.now old.store.clauses old.trail.level old.trail.entries c.propagate.new.self.trail.entries c.requires.assumes c.propagate.ensures.extends

pub returns-in_default-clause-turn : goal.returns-in_default-clause-turn
returns-in_default-clause-turn c =
    let old = c.args.search.now in
    let mid = c.propagate.new.self in
    let new = c.decide.new.search in
    turn_later old mid new c.args.assumptions.now c.decide.result c.requires.search.trail c.decide.ensures.grows.search.trail (c.decide.ensures.grows.vars ∙ c.propagate.ensures.vars) c.propagate.ensures.farther c.propagate.ensures.clauses c.decide.ensures.turn

pub returns-clause-turn : goal.returns-clause-turn
returns-clause-turn c =
    let old = c.args.search.now in
    let mid = c.propagate.new.self in
    let new = c.learn.new.search in
    let grows = c.learn.ensures.grows in
    IfOk-weaker c.learn.result (TurnIs mid new c.args.assumptions.now) (TurnIs old new c.args.assumptions.now) (λ turn. turn_later old mid new c.args.assumptions.now turn c.requires.search.trail grows.search.trail (grows.vars ∙ c.propagate.ensures.vars) c.propagate.ensures.farther c.propagate.ensures.clauses) c.learn.ensures.turn
