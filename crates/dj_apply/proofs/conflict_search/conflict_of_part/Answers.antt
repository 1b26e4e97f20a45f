use Rattle.std.proofs.Common.{◌≡◌, ◌-◌, List, Option, Some, slice_get, subst}
use Rattle.std.proofs.lemmas.Result.{IfOk-weaker}
use Rattle.dj_tree.specs.Trees.{Delta, Part}
use Rattle.dj_calculus.specs.Parts.{chain}
use Rattle.dj_line.specs.Lines.{plain_line}
use Rattle.dj_apply.specs.ActiveOperations.{active_deltas}
use Rattle.dj_apply.specs.Least.{IsLeastBy}
use Rattle.dj_apply.specs.Overlaps.{IsNoLater, DeltasClash, PartClash}
use Rattle.dj_apply.specs.declared.overlaps.Thing.{Thing}
use Rattle.dj_apply.proofs.ConflictLemmas.{of_part}
use Rattle.dj_apply.proofs.conflict_search.conflict_of_part.Goals as goal

pub returns : goal.returns
returns c =
    let line = plain_line c.args.line.now in
    let chosen = c.args.config.now.chosen.items in
    let part = of_part line chosen c.source-source.ensures.accepted (c.args.part - 1) c.items.result.now c.items.ensures.numbers in
    IfOk-weaker c.conflict_of_deltas.result (IsLeastBy IsNoLater (DeltasClash (active_deltas line chosen c.items.result.now)))
    (λ (o : Option Thing). (p : Part) × (slice_get (chain line) (c.args.part - 1) ≡ Some p) × IsLeastBy IsNoLater (PartClash line chosen p) o)
    (λ o least. (part.0, part.1, subst (λ (ds : List Delta). IsLeastBy IsNoLater (DeltasClash ds) o) part.2 least)) c.conflict_of_deltas.ensures
