use Rattle.std.proofs.Common.{◌≡◌, Some, slice_get, ap, subst, ◌∙◌}
use Rattle.indexmap.specs.IndexMap.{get}
use Rattle.sat_clauses.specs.Literals.{same_literal}
use Rattle.sat_clauses.specs.ClauseLists.{without}
use Rattle.sat_clauses.specs.Resolvents.{filled}
use Rattle.sat_clauses.proofs.SlotLemmas.{Misses, once_placed, filled_emptied, filled_missed}
use Rattle.sat_clauses.proofs.resolvent.Resolvent.remove.Goals as goal

pub returns-in-Some : goal.returns-in-Some
returns-in-Some c =
    let slots = c.self.inside.slots.items in
    let there : slice_get slots c.in-Some.place ≡ Some (Some c.args.lit) = subst (λ s. slice_get s c.in-Some.place ≡ Some (Some c.args.lit)) c.deref.ensures.value c.in-Some.ensures.there in
    filled_emptied slots c.in-Some.place c.args.lit (once_placed slots (get same_literal c.self.inside.places) c.self.invariant) there ∙ ap (λ clause. without clause c.args.lit) c.self.view_is

pub returns-in_default : goal.returns-in_default
returns-in_default c =
    let nowhere : Misses c.deref.result.now c.args.lit = c.in_default.ensures.nowhere in
    subst (λ clause. clause ≡ without clause c.args.lit) (ap filled c.deref.ensures.value ∙ c.self.view_is) (filled_missed c.deref.result.now c.args.lit nowhere)
