use Rattle.dj_source_laws.proofs.PlaceLaws.{place_tells, java_place_tells, place_tells_part}
use Rattle.dj_source_laws.proofs.laws.place_tells.Goals as goal

pub returns-clause-tells : goal.returns-clause-tells
returns-clause-tells c = place_tells

pub returns-clause-java_tells : goal.returns-clause-java_tells
returns-clause-java_tells c = java_place_tells

pub returns-clause-tells_part : goal.returns-clause-tells_part
returns-clause-tells_part c = place_tells_part
