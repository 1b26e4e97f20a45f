use Rattle.std.proofs.Common.{◌≡◌, length}
use Rattle.sat_links.proofs.tests.watches.five_clauses.Given as goal

abbrev pub invariant-loop-clause : goal.invariant-loop-clause
invariant-loop-clause g l = length l.lists ≡ 4
