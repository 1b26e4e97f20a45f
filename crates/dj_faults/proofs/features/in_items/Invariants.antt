use Rattle.std.proofs.Common.{take}
use Rattle.dj_tree.specs.Plain.{plain_source, plain_item}
use Rattle.dj_faults.specs.LeastPlace.{IsLeastPlace, Among}
use Rattle.dj_faults.specs.Inside.{UnknownInItem}
use Rattle.dj_faults.proofs.features.in_items.Given as goal

abbrev pub invariant-loop-item : goal.invariant-loop-item
invariant-loop-item l = IsLeastPlace (Among (λ i. UnknownInItem (plain_source l.source).features (plain_item l.source.names l.source.formulas i)) (take l.item-index l.items)) l.least
