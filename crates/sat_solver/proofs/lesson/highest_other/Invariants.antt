use Rattle.std.proofs.Common.{take}
use Rattle.sat_clauses.specs.ClauseLists.{without}
use Rattle.sat_solver.specs.Lessons.{IsSecond}
use Rattle.sat_solver.proofs.LevelLemmas.{IsHighest}
use Rattle.sat_solver.proofs.lesson.highest_other.Given as goal

abbrev pub invariant-loop-other : goal.invariant-loop-other
invariant-loop-other l = record {
  highest : IsHighest l.trail.entries (without (take l.other-index l.clause) l.lit) l.highest.level;
  second : IsSecond l.trail.entries (without (take l.other-index l.clause) l.lit) l.highest.level l.highest.second;
}
