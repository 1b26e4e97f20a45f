use Rattle.std.proofs.Common.{◌≡◌, take, All}
use Rattle.sat_clauses.specs.Literals.{IsLiteral}
use Rattle.sat_clauses.specs.ClauseLists.{distinct_literals}
use Rattle.sat_clauses.proofs.clauses.distinct.Given as goal

abbrev pub invariant-loop-lit : goal.invariant-loop-lit
invariant-loop-lit l = (l.kept.keys ≡ distinct_literals (take l.lit-index l.lits)) × All IsLiteral l.kept.keys
