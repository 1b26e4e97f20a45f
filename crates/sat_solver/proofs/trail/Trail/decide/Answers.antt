use Rattle.std.proofs.Common.{◌≤◌, ◌-◌, None, All, IsSome, get_or, refl, sym, subst, ap, ◌∙◌}
use Rattle.std.proofs.lemmas.Bool.{true≢false}
use Rattle.sat_solver.specs.Entries.{values_of}
use Rattle.sat_solver.proofs.EntryLemmas.{values_at}
use Rattle.sat_solver.proofs.QueueLemmas.{queue_length, last_within, all_valued, queue_valued}
use Rattle.sat_solver.proofs.trail.Trail.decide.Goals as goal
use Rattle.sat_solver.proofs.trail.Trail.decide.Goals.{In_ok-var}

pub last_free-requires : goal.last_free-requires
last_free-requires c = c.values.ensures.length ∙ sym (queue_length c.args.self.now.vars c.args.queue.now c.requires)

pub returns-in_err-var-clause-none : goal.returns-in_err-var-clause-none
returns-in_err-var-clause-none c =
    let vars = c.args.self.now.vars in
    let values = values_of vars c.args.self.now.entries in
    let all : All IsSome c.values.result.now = all_valued vars c.args.queue.now c.requires c.values.result.now c.values.ensures.length (c.in_err-var.ensures.none.0 refl) in
    (λ _. subst (All IsSome) c.values.ensures.values all, λ _. rw c.from_residual.ensures refl)

within : (c : In_ok-var) → (1 ≤ c.in_ok-var.var) × (c.in_ok-var.var ≤ c.args.self.now.vars)
within c = last_within c.args.self.now.vars c.args.queue.now c.requires c.values.result.now c.in_ok-var.var c.in_ok-var.ensures.last

pub decide_literal-requires-clause-within : goal.decide_literal-requires-clause-within
decide_literal-requires-clause-within c = within (goal.at.decide_literal-requires-clause-within c).In_ok-var

pub decide_literal-requires-clause-free : goal.decide_literal-requires-clause-free
decide_literal-requires-clause-free c =
    let vars = c.args.self.now.vars in
    let entries = c.args.self.now.entries in
    let var = c.in_ok-var.var in
    let h = within (goal.at.decide_literal-requires-clause-free c).In_ok-var in
    sym (values_at vars entries var h.0 h.1) ∙ ap (λ vs. get_or vs (var - 1) None) (sym c.values.ensures.values) ∙ c.in_ok-var.ensures.last.free

pub returns-clause-none : goal.returns-clause-none
returns-clause-none c =
    let vars = c.args.self.now.vars in
    (λ e. absurd (true≢false e), λ all. c.in_ok-var.ensures.none.1 (queue_valued vars c.args.queue.now c.requires c.values.result.now c.values.ensures.length (subst (All IsSome) (sym c.values.ensures.values) all)))

pub returns-clause-paired : goal.returns-clause-paired
returns-clause-paired c = c.decide_literal.ensures.paired
