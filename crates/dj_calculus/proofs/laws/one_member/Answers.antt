use Rattle.dj_calculus.proofs.TypeLemmas.{one_field, one_method}
use Rattle.dj_calculus.proofs.laws.one_member.Goals as goal

pub returns-clause-one_field : goal.returns-clause-one_field
returns-clause-one_field c = one_field

pub returns-clause-one_method : goal.returns-clause-one_method
returns-clause-one_method c = one_method
