use Rattle.dj_calculus.specs.Faults.{RepeatedPart}
use Rattle.dj_line.proofs.acceptance.accepted.Goals as goal

pub chain_of-requires-clause-once : goal.chain_of-requires-clause-once
chain_of-requires-clause-once c = λ at. c.requires.accepted RepeatedPart at
