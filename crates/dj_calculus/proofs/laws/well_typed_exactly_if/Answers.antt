use Rattle.dj_calculus.proofs.TableLaw.{well_typed_exactly_if, bodies_are_expressions}
use Rattle.dj_calculus.proofs.laws.well_typed_exactly_if.Goals as goal

pub returns : goal.returns
returns c = λ t is. well_typed_exactly_if t is.no_object (bodies_are_expressions t is)
