use Rattle.std.proofs.Common.{◌≡◌, length, sym, ap, subst, ◌∙◌}
use Rattle.sat_solver.specs.Trails.{TrailState}
use Rattle.sat_solver.specs.Pairing.{Paired}
use Rattle.sat_solver.proofs.tests.falsified.Goals as goal
use Rattle.sat_solver.proofs.tests.falsified.Goals.{then-behind+in_ok-new, else-behind}

pub propagate-requires : goal.propagate-requires
propagate-requires g c =
    let store = c.in_ok-store.store in
    let begins : Paired c.in_ok-trail.trail store = c.in_ok-trail.ensures.paired store (sym c.vars-vars.ensures) c.in_ok-store.ensures.watching c.in_ok-store.ensures.unseen in
    let empty = c.in_ok-trail.ensures.empty in
    elim c.if-behind.branch [
      | then-behind+in_ok-new w ↦ subst (λ t. Paired t store) (sym w.trail-is) (w.decide.ensures.paired store begins (ap (λ (t : TrailState). t.worked) empty ∙ sym (ap (λ (t : TrailState). length t.entries) empty)))
      | else-behind w ↦ subst (λ t. Paired t store) (sym w.trail-is) begins
    ]
