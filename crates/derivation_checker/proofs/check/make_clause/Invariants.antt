use Rattle.std.proofs.Common.{◌++◌, take}
use Rattle.sat_clauses.specs.ClauseLists.{literal_lists}
use Rattle.sat_clauses.specs.Derivations.{Chain}
use Rattle.derivation_checker.proofs.check.make_clause.Given as goal

abbrev pub invariant-loop-place : goal.invariant-loop-place
invariant-loop-place l = Chain (l.clauses ++ literal_lists l.made) (take l.place l.link-items) l.initial.making l.making
