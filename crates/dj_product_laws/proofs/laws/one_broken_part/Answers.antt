use Rattle.dj_product_laws.proofs.BrokenPart.{one_part_breaks, nothing_behind, least_broken_counts}
use Rattle.dj_product_laws.proofs.PassProofs.{least_met_counts}
use Rattle.dj_product_laws.proofs.laws.one_broken_part.Goals as goal

pub returns-clause-one_part : goal.returns-clause-one_part
returns-clause-one_part c = λ source config k n rule at r p accepted. one_part_breaks source config accepted k n rule at r p

pub returns-clause-nothing_behind : goal.returns-clause-nothing_behind
returns-clause-nothing_behind c = λ source config k n rule at t accepted. nothing_behind source config accepted k n rule at t

pub returns-clause-least : goal.returns-clause-least
returns-clause-least c = λ source config k rule at accepted. least_broken_counts source config accepted k rule at

pub returns-clause-met : goal.returns-clause-met
returns-clause-met c = least_met_counts
