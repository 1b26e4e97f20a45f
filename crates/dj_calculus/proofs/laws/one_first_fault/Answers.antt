use Rattle.dj_calculus.proofs.FaultLemmas.{same_fault, same_place}
use Rattle.dj_calculus.proofs.laws.one_first_fault.Goals as goal

pub returns : goal.returns
returns c = record { same_fault = same_fault; same_place = same_place; none = λ source f a accepted first. accepted f a first.stands }
