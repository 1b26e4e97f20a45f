use Rattle.std.proofs.Common.{◌+◌, None, inl, sym, subst}
use Rattle.sat_solver.specs.declared.entry.Entry.{Entry}
use Rattle.sat_solver.specs.Trails.{IsTrail}
use Rattle.sat_solver.specs.Pairing.{Paired}
use Rattle.sat_solver.proofs.PairingLemmas.{paired_push}
use Rattle.sat_solver.proofs.trail.Trail.decide_literal.Goals as goal

pub returns-clause-paired : goal.returns-clause-paired
returns-clause-paired c = λ store paired all.
    let entry : Entry = record { lit = c.args.lit; level = c.push.inside.level + 1; reason = None } in
    subst (λ t. Paired t store) (sym c.push-2.ensures.pushed) (paired_push c.args.self.now store entry paired (subst IsTrail c.push-2.ensures.pushed c.push-2.ensures.trail) (inl all))
