use Rattle.std.proofs.Common.{ap, ◌∙◌}
use Rattle.sat_clauses.specs.ClauseLists.{has}
use Rattle.sat_clauses.specs.Resolvents.{filled}
use Rattle.sat_clauses.proofs.SlotLemmas.{has_told}
use Rattle.sat_clauses.proofs.resolvent.Resolvent.contains.Goals as goal

pub returns : goal.returns
returns c =
    c.is_some.ensures
    ∙ has_told c.deref.result.now c.args.lit c.slot_of.result c.slot_of.ensures.there c.slot_of.ensures.nowhere
    ∙ ap (λ slots. has (filled slots) c.args.lit) c.deref.ensures.value
    ∙ ap (λ clause. has clause c.args.lit) c.self.view_is
