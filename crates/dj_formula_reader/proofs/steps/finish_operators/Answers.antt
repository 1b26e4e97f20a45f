use Rattle.std.proofs.Common.{◌++◌, refl, sym, ap, ◌∙◌}
use Rattle.std.proofs.lemmas.List.{append-nil}
use Rattle.dj_formula_reader.specs.View.{forms_of}
use Rattle.dj_formula_reader.proofs.Finishing.{one_finished, fewer}
use Rattle.dj_formula_reader.proofs.steps.finish_operators.Goals as goal

pub tops-init : goal.tops-init
tops-init c = (record { still = refl; made = refl }, refl)

pub tops-smaller : goal.tops-smaller
tops-smaller c = fewer c.args.bytes.now c.args.least c.tops.machine.frames c.pop_above.new.frames c.in-Some.mark c.in-Some.ensures

pub tops-preserved : goal.tops-preserved
tops-preserved c = (
  one_finished c.args.bytes.now c.args.least c.args.machine.now.frames c.args.machine.now.marks.items c.tops.machine.frames c.pop_above.new.frames c.tops.machine.marks.items
      c.push.new.self.items c.in-Some.mark c.tops.invariant.0 c.in-Some.ensures c.in_ok-push.ensures.items,
  c.tops.invariant.1,
)

pub returns-clause-frames : goal.returns-clause-frames
returns-clause-frames c = c.in_default.ensures.0 ∙ sym c.in_default.ensures.1 ∙ c.tops.invariant.0.still

pub returns-clause-forms : goal.returns-clause-forms
returns-clause-forms c =
    let forms = forms_of c.args.bytes.now c.tops.machine.marks.items in
    sym (ap (λ l. forms ++ l) c.in_default.ensures.2 ∙ append-nil forms) ∙ c.tops.invariant.0.made

pub returns-clause-waits : goal.returns-clause-waits
returns-clause-waits c = c.tops.invariant.1
