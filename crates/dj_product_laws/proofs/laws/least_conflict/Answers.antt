use Rattle.dj_product_laws.proofs.ConflictProofs.{least_conflict_counts, least_conflict_prevents, disjoint_exactly_if, none_of_first_layer}
use Rattle.dj_product_laws.proofs.laws.least_conflict.Goals as goal

pub returns-clause-counts : goal.returns-clause-counts
returns-clause-counts c = least_conflict_counts

pub returns-clause-prevents : goal.returns-clause-prevents
returns-clause-prevents c = least_conflict_prevents

pub returns-clause-disjoint : goal.returns-clause-disjoint
returns-clause-disjoint c = disjoint_exactly_if

pub returns-clause-none_of_first_layer : goal.returns-clause-none_of_first_layer
returns-clause-none_of_first_layer c = none_of_first_layer
