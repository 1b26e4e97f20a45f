use Rattle.dj_calculus_laws.proofs.FlatAgain.{flat_again, flat_is_well_typed}
use Rattle.dj_calculus_laws.proofs.laws.flat_tables.Goals as goal

pub returns-clause-well_typed : goal.returns-clause-well_typed
returns-clause-well_typed c = flat_is_well_typed

pub returns-clause-again : goal.returns-clause-again
returns-clause-again c = flat_again
