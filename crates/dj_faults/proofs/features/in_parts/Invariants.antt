use Rattle.std.proofs.Common.{take}
use Rattle.dj_tree.specs.Plain.{plain_source, plain_item}
use Rattle.dj_faults.specs.LeastPlace.{IsLeastPlace, Among}
use Rattle.dj_faults.specs.Inside.{UnknownInItem}
use Rattle.dj_faults.proofs.features.in_parts.Given as goal

abbrev pub invariant-loop-part : goal.invariant-loop-part
invariant-loop-part l = IsLeastPlace (Among (λ p. Among (λ i. UnknownInItem (plain_source l.source).features (plain_item l.source.names l.source.formulas i)) p.items) (take l.part-index l.source.parts)) l.least
