-- The features that are left are in the table of names, and the names so far with the chosen ones of those that are left are all of them.
use Rattle.std.proofs.Common.{◌≡◌, ◌++◌, map}
use Rattle.std.specs.List.{All}
use Rattle.std.specs.Slice.Iter.{iter_rest}
use Rattle.dj_tree.specs.Plain.{plain_spot}
use Rattle.dj_tree.specs.WellFormed.{IsKnown}
use Rattle.dj_report.specs.Answers.{chosen_names}
use Rattle.dj_report.proofs.answers.chosen_names.Given as goal

abbrev pub invariant-loop-feature : goal.invariant-loop-feature
invariant-loop-feature l =
    All (IsKnown l.source.names) (iter_rest l.feature-iterator.a)
    × (map (λ name. name.now) l.names.items ++ chosen_names (map (plain_spot l.source.names) (iter_rest l.feature-iterator.a)) (iter_rest l.feature-iterator.b)
    ≡ chosen_names (map (plain_spot l.source.names) l.source.features) l.chosen)
