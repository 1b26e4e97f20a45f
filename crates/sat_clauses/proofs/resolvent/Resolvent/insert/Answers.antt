use Rattle.std.proofs.Common.{◌≡◌, Some, length, ap, sym, subst, ◌∙◌, arith}
use Rattle.indexmap.specs.IndexMap.{get}
use Rattle.sat_clauses.specs.Literals.{same_literal}
use Rattle.sat_clauses.specs.ClauseLists.{with_literal}
use Rattle.sat_clauses.specs.Resolvents.{filled}
use Rattle.sat_clauses.proofs.SlotLemmas.{Misses, there_told, missed_told, placed_anew, placed_more, filled_more}
use Rattle.sat_clauses.proofs.resolvent.Resolvent.insert.Goals as goal

pub returns-then-is_some-clause-ok : goal.returns-then-is_some-clause-ok
returns-then-is_some-clause-ok c =
    subst (λ clause. clause ≡ with_literal clause c.args.lit) (ap filled c.deref.ensures.value ∙ c.self.view_is) (there_told c.deref.result.now c.args.lit c.slot_of.result c.slot_of.ensures.there (sym c.is_some.ensures ∙ c.if-is_some.true))

pub invariant_of-self-in_err-push : goal.invariant_of-self-in_err-push
invariant_of-self-in_err-push c =
    let slots = c.self.inside.slots.items in
    let misses : Misses slots c.args.lit = subst (λ s. Misses s c.args.lit) c.deref.ensures.value (missed_told c.deref.result.now c.args.lit c.slot_of.result c.slot_of.ensures.nowhere (sym c.is_some.ensures ∙ c.if-is_some.false)) in
    rw c.in_err-push.ensures.items (placed_anew slots c.args.lit (get same_literal c.self.inside.places) (get same_literal c.insert.new.self) misses c.in_ok-insert.ensures.updates.2 c.self.invariant)

pub invariant_of-self-2 : goal.invariant_of-self-2
invariant_of-self-2 c =
    let slots = c.self.inside.slots.items in
    let place_of = get same_literal c.insert.new.self in
    let misses : Misses slots c.args.lit = subst (λ s. Misses s c.args.lit) c.deref.ensures.value (missed_told c.deref.result.now c.args.lit c.slot_of.result c.slot_of.ensures.nowhere (sym c.is_some.ensures ∙ c.if-is_some.false)) in
    let count : c.len.result ≡ length slots = omega (arith, c.self.inside.slots.ok.0, c.len.ensures) in
    let here : place_of c.args.lit ≡ Some (length slots) = c.in_ok-insert.ensures.updates.1 ∙ ap Some count in
    rw c.in_ok-push.ensures.items (placed_more slots c.args.lit place_of here (placed_anew slots c.args.lit (get same_literal c.self.inside.places) place_of misses c.in_ok-insert.ensures.updates.2 c.self.invariant))

pub returns-clause-ok : goal.returns-clause-ok
returns-clause-ok c =
    let slots = c.self.inside.slots.items in
    let misses : Misses slots c.args.lit = subst (λ s. Misses s c.args.lit) c.deref.ensures.value (missed_told c.deref.result.now c.args.lit c.slot_of.result c.slot_of.ensures.nowhere (sym c.is_some.ensures ∙ c.if-is_some.false)) in
    ap filled c.in_ok-push.ensures.items ∙ filled_more slots c.args.lit misses ∙ ap (λ clause. with_literal clause c.args.lit) c.self.view_is
