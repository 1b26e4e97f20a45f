use Rattle.std.proofs.Common.{◌≡◌, take}
use Rattle.sat_clauses.specs.ClauseLists.{joined, without}
use Rattle.sat_clauses.proofs.resolvent.Resolvent.resolve.Given as goal

abbrev pub invariant-loop-lit : goal.invariant-loop-lit
invariant-loop-lit l = l.self ≡ joined (without l.fn.self l.fn.pivot) (without (take l.lit-index l.other) l.opposite)
