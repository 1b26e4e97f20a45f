use Rattle.std.proofs.Common.{◌++◌, refl, sym, ap, ◌∙◌}
use Rattle.std.proofs.lemmas.List.{append-nil}
use Rattle.dj_expr_reader.specs.View.{plain_marks, plain_frames}
use Rattle.dj_expr_reader.proofs.TakenOff.{one_finished, fewer, done}
use Rattle.dj_expr_reader.proofs.finishing.finish_top.Goals as goal

pub tops-init : goal.tops-init
tops-init c = (record { still = λ bytes. refl; made = λ bytes. refl }, refl)

pub tops-smaller : goal.tops-smaller
tops-smaller c = fewer c.tops.machine.frames c.pop_finished.new.frames c.in-Some.mark c.in-Some.ensures

pub tops-preserved : goal.tops-preserved
tops-preserved c = (
  one_finished c.args.machine.now.frames c.args.machine.now.marks.items c.tops.machine.frames c.pop_finished.new.frames c.tops.machine.marks.items c.push.new.self.items c.in-Some.mark
      c.tops.invariant.0 c.in-Some.ensures c.in_ok-push.ensures.items,
  c.tops.invariant.1,
)

pub returns-clause-frames : goal.returns-clause-frames
returns-clause-frames c = λ bytes.
    let d = done c.tops.machine.frames c.pop_finished.new.frames c.in_default.ensures in
    ap (plain_frames bytes) d.same ∙ sym (d.still bytes) ∙ c.tops.invariant.0.still bytes

pub returns-clause-marks : goal.returns-clause-marks
returns-clause-marks c = λ bytes.
    let d = done c.tops.machine.frames c.pop_finished.new.frames c.in_default.ensures in
    let marks = plain_marks bytes c.tops.machine.marks.items in
    sym (ap (λ l. marks ++ l) (d.leaves bytes) ∙ append-nil marks) ∙ c.tops.invariant.0.made bytes

pub returns-clause-mode : goal.returns-clause-mode
returns-clause-mode c = c.tops.invariant.1
