use Rattle.dj_product_laws.proofs.OverlapProofs.{things_that_conflict, deltas_by_things, least_by_things, disjoint_by_things, thing_by_thing, delta_by_delta, part_by_part}
use Rattle.dj_product_laws.proofs.laws.conflicts_by_things.Goals as goal

pub returns-clause-things : goal.returns-clause-things
returns-clause-things c = things_that_conflict

pub returns-clause-deltas : goal.returns-clause-deltas
returns-clause-deltas c = deltas_by_things

pub returns-clause-least : goal.returns-clause-least
returns-clause-least c = least_by_things

pub returns-clause-disjoint : goal.returns-clause-disjoint
returns-clause-disjoint c = disjoint_by_things

pub returns-clause-thing_by_thing : goal.returns-clause-thing_by_thing
returns-clause-thing_by_thing c = thing_by_thing

pub returns-clause-delta_by_delta : goal.returns-clause-delta_by_delta
returns-clause-delta_by_delta c = delta_by_delta

pub returns-clause-part_by_part : goal.returns-clause-part_by_part
returns-clause-part_by_part c = part_by_part
