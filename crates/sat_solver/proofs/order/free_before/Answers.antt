use Rattle.std.proofs.Common.{◌≡◌, ◌-◌, ◌≤◌, Bool, false, Option, None, Some, is_some, get_or, refl, sym, ap, subst, ◌∙◌}
use Rattle.sat_links.specs.Queues.{Precedes}
use Rattle.sat_solver.proofs.AlongLemmas.{All-at}
use Rattle.sat_solver.proofs.EntryLemmas.{values_at}
use Rattle.sat_solver.proofs.QueueLemmas.{queue_within, in_queue}
use Rattle.sat_solver.proofs.order.free_before.Goals as goal

none_from_test : (value : Option Bool) → is_some value ≡ false → value ≡ None
none_from_test None e = refl
none_from_test (Some b) e = cc

pub previous-requires : goal.previous-requires
previous-requires c = in_queue c.args.trail.now.vars c.args.queue.now c.requires c.back.var c.back.invariant.0 c.back.invariant.1

pub returns-then-is_none-clause-free : goal.returns-then-is_none-clause-free
returns-then-is_none-clause-free c =
    let trail = c.args.trail.now in
    let var = c.back.var in
    let none : get_or c.values-values.result.now (var - 1) None ≡ None = none_from_test (get_or c.values-values.result.now (var - 1) None) c.if-is_none.ensures in
    sym (values_at trail.vars trail.entries var c.back.invariant.0 c.back.invariant.1) ∙ ap (λ vs. get_or vs (var - 1) None) (sym c.values-values.ensures.values) ∙ none

pub back-preserved : goal.back-preserved
back-preserved c =
    let vars = c.args.trail.now.vars in
    let queue = c.args.queue.now in
    let before = c.in-Some.before in
    let is = subst (Precedes queue c.back.var) c.in-Some.is c.previous.ensures in
    All-at (λ var. (1 ≤ var) × (var ≤ vars)) queue is.0 before (queue_within vars queue c.requires) is.1
