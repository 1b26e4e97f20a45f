use Rattle.dj_source_laws.proofs.OnceLemmas.{stand_once, placed, placed_once}
use Rattle.dj_source_laws.proofs.laws.stand_once.Goals as goal

pub returns-clause-once : goal.returns-clause-once
returns-clause-once c = stand_once

pub returns-clause-placed : goal.returns-clause-placed
returns-clause-placed c = λ source delta accepted there. placed source accepted delta there

pub returns-clause-placed_once : goal.returns-clause-placed_once
returns-clause-placed_once c = λ source p q i j delta accepted one other. placed_once source accepted p q i j delta one other
