use Rattle.std.proofs.Common.{◌≡◌, ◌++◌, All, length, map, take}
use Rattle.std.specs.List.{IsDistinct}
use Rattle.sat_clauses.specs.Literals.{same_literal}
use Rattle.sat_clauses.specs.ClauseLists.{literal_lists}
use Rattle.sat_clauses.specs.Derivations.{Follow, resolution_of}
use Rattle.derivation_checker.proofs.check.make_clauses.Given as goal

abbrev pub invariant-loop-step : goal.invariant-loop-step
invariant-loop-step l =
    Follow l.clauses (map resolution_of (take l.step-index l.steps)) (l.clauses ++ literal_lists l.made.items)
    × All (IsDistinct same_literal) (literal_lists l.made.items)
    × (length l.made.items ≡ l.step-index)
