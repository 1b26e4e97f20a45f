use Rattle.dj_calculus.proofs.TypeLemmas.{one_type}
use Rattle.dj_calculus.proofs.laws.one_type.Goals as goal

pub returns : goal.returns
returns c = one_type
