use Rattle.std.proofs.Common.{◌∙◌, get_or, sym, ap}
use Rattle.std.proofs.lemmas.Option.{slice_get-get_or}
use Rattle.dj_line.specs.Lines.{plain_line}
use Rattle.dj_line.specs.Orders.{is_active}
use Rattle.dj_line.proofs.ActiveOrders.{filter_on, filter_off}
use Rattle.dj_line.proofs.line.Line.active.Goals.{then-branch+in_ok-push, else-branch}
use Rattle.dj_line.proofs.line.Line.active.Goals as goal

pub loop-delta-preserved : goal.loop-delta-preserved
loop-delta-preserved c =
    let p = is_active (plain_line c.args.self.now) c.args.config.now.chosen.items in
    let k = c.loop-delta.delta-index in
    let delta = get_or c.args.deltas.now k 0 in
    let at = slice_get-get_or c.args.deltas.now k 0 c.loop-delta-test.true in
    elim c.if-branch.branch [
      | then-branch+in_ok-push w ↦ filter_on p c.args.deltas.now c.loop-delta.active.items _ k delta at c.loop-delta.invariant (sym c.in_ok-is_active.ensures ∙ w.if-branch.true) (ap (λ v. v.items) w.active-is ∙ w.in_ok-push.ensures.items)
      | else-branch w ↦ filter_off p c.args.deltas.now c.loop-delta.active.items _ k delta at c.loop-delta.invariant (sym c.in_ok-is_active.ensures ∙ w.if-branch.false) (ap (λ v. v.items) w.active-is)
    ]
