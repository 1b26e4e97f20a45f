use Rattle.dj_declarations.proofs.OneReading.{one_value}
use Rattle.dj_declarations.proofs.laws.one_reading.Goals as goal

pub returns-clause-sources : goal.returns-clause-sources
returns-clause-sources c = λ symbols a b p q. one_value c.sources_are_read.ensures.sources symbols a b p q

pub returns-clause-classes : goal.returns-clause-classes
returns-clause-classes c = λ symbols a b p q. one_value c.sources_are_read.ensures.classes symbols a b p q
