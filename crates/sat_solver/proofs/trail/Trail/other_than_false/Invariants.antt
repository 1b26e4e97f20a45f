use Rattle.std.proofs.Common.{take}
use Rattle.sat_clauses.specs.ClauseLists.{without}
use Rattle.sat_solver.specs.Entries.{IsFalseClause}
use Rattle.sat_solver.proofs.trail.Trail.other_than_false.Given as goal

abbrev pub invariant-literals : goal.invariant-literals
invariant-literals l = IsFalseClause l.self.entries (without (take l.lit-index l.clause) l.other)
