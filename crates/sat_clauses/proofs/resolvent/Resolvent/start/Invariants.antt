use Rattle.std.proofs.Common.{◌≡◌, [], take}
use Rattle.sat_clauses.specs.ClauseLists.{joined}
use Rattle.sat_clauses.proofs.resolvent.Resolvent.start.Given as goal

abbrev pub invariant-loop-lit : goal.invariant-loop-lit
invariant-loop-lit l = l.self ≡ joined [] (take l.lit-index l.lits)
