use Rattle.std.proofs.Common.{All, take}
use Rattle.sat_clauses.specs.Literals.{IsLiteral}
use Rattle.sat_clauses.specs.Derivations.{Chain}
use Rattle.sat_solver.specs.Entries.{IsFalseClause}
use Rattle.sat_solver.proofs.analysis.analyze.Given as goal

abbrev pub invariant-back : goal.invariant-back
invariant-back l = record {
  falsified : IsFalseClause (take l.place l.trail.entries) l.making.clause;
  literals : All IsLiteral l.making.clause;
  chain : Chain l.store.clauses l.chain.items l.initial.making.clause l.making.clause;
}
