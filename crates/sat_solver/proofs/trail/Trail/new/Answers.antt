use Rattle.std.proofs.Common.{◌≡◌, Bool, Option, None, length, arith, sym, subst, replicate, vec_capacity, rules}
use Rattle.sat_solver.specs.Trails.{IsTrail, empty_trail}
use Rattle.sat_solver.specs.Pairing.{Paired}
use Rattle.sat_solver.proofs.PairingLemmas.{paired_new}
use Rattle.sat_solver.proofs.TrailLemmas.{empty_keeps}
use Rattle.sat_solver.proofs.trail.Trail.new.Goals as goal

pub invariant_of-result : goal.invariant_of-result
invariant_of-result c =
    let values : c.in_ok-vec.field-0.items ≡ replicate {A = Option Bool} c.args.vars None = c.in_ok-vec.ensures.items_if_clones_equal (λ y e. search rules) in
    let levels : c.in_ok-vec-2.field-0.items ≡ replicate c.args.vars 0 = c.in_ok-vec-2.ensures.items_if_clones_equal (λ y e. e) in
    rw (values, levels, c.in_ok-with_capacity.ensures.items) (empty_keeps c.args.vars (vec_capacity c.in_ok-with_capacity.field-0) c.in_ok-with_capacity.ensures.capacity)

pub returns-clause-paired : goal.returns-clause-paired
returns-clause-paired c = λ store vars watching unseen.
    let keeps = invariant_of-result c in
    let count : length c.in_ok-vec.field-0.items ≡ c.args.vars = omega (arith, c.in_ok-vec.ensures.len, c.in_ok-vec.field-0.ok.0) in
    let items = c.in_ok-with_capacity.ensures.items in
    let at : IsTrail (empty_trail (length c.in_ok-vec.field-0.items)) = subst (λ es. IsTrail (record { vars = length c.in_ok-vec.field-0.items; entries = es; level = 0; worked = 0 })) items keeps.trail in
    let begins : Paired (empty_trail c.args.vars) store = paired_new c.args.vars store (subst (λ n. IsTrail (empty_trail n)) count at) vars watching unseen in
    subst (λ es. Paired (record { vars = length c.in_ok-vec.field-0.items; entries = es; level = 0; worked = 0 }) store) (sym items) (subst (λ n. Paired (empty_trail n) store) (sym count) begins)

pub returns-clause-small : goal.returns-clause-small
returns-clause-small c = omega (arith, c.in_ok-vec.ensures.len, c.in_ok-vec.field-0.small)
