use Rattle.std.proofs.Common.{is_some, ap}
use Rattle.dj_line.proofs.acceptance.judged.Goals as goal

pub accepted-requires-clause-accepted : goal.accepted-requires-clause-accepted
accepted-requires-clause-accepted c = c.in_ok-fault.ensures.accepted.0 (ap is_some c.in-None.is)
