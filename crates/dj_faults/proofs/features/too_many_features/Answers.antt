use Rattle.std.proofs.Common.{◌<◌, ◌≤◌, length, get_or, List, Some, sym, subst}
use Rattle.dj_tree.specs.declared.declarations.Spot.{Spot}
use Rattle.dj_tree.specs.Plain.{plain_source}
use Rattle.dj_calculus.specs.Faults.{TooManyFeatures}
use Rattle.dj_calculus.specs.FaultPlaces.{FaultStands}
use Rattle.dj_faults.specs.LeastPlace.{IsLeastPlace}
use Rattle.dj_faults.proofs.ListFaults.{least_too_many, least_not_too_many}
use Rattle.dj_faults.proofs.features.too_many_features.Goals as goal

pub returns-then-features-gt-MOST_FEATURES : goal.returns-then-features-gt-MOST_FEATURES
returns-then-features-gt-MOST_FEATURES c =
    let s = c.args.source.now in
    subst (λ (xs : List Spot). IsLeastPlace (FaultStands (plain_source s) TooManyFeatures) (Some (get_or xs 4096 _).at)) (sym c.as_slice-features.ensures)
    (least_too_many s c.requires _ (subst (λ (xs : List Spot). 4096 < length xs) c.as_slice-features.ensures c.if-features-gt-MOST_FEATURES.true))

pub returns-else-features-gt-MOST_FEATURES : goal.returns-else-features-gt-MOST_FEATURES
returns-else-features-gt-MOST_FEATURES c =
    least_not_too_many c.args.source.now c.requires (subst (λ (xs : List Spot). length xs ≤ 4096) c.as_slice-features.ensures c.if-features-gt-MOST_FEATURES.false)
