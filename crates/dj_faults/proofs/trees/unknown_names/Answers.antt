use Rattle.std.proofs.Common.{nat_eq, subst}
use Rattle.indexmap.specs.IndexSet.{contains}
use Rattle.arena_walk.specs.Tree.{nodes}
use Rattle.dj_faults.specs.LeastPlace.{IsLeastPlace, Among}
use Rattle.dj_faults.specs.Inside.{UnknownIn}
use Rattle.arena_walk.proofs.Visitors.{each_by_number}
use Rattle.dj_faults.proofs.TreeFaults.{least_unknown_name}
use Rattle.dj_faults.proofs.trees.unknown_names.Goals as goal

pub walk-requires-clause-admitted : goal.walk-requires-clause-admitted
walk-requires-clause-admitted c = λ tree is. each_by_number _ _ c.args.source.now.formulas c.args.root.0 tree (λ u k below e. tt) is

pub returns-in-Ok : goal.returns-in-Ok
returns-in-Ok c =
    least_unknown_name c.args.source.now c.requires.sound (contains nat_eq c.args.features.now) c.requires.features c.args.root.0 c.in-Ok.least c.requires.there
    (λ tree is. subst (λ features. IsLeastPlace (Among (UnknownIn (contains nat_eq features)) (nodes tree)) c.in-Ok.least) c.in-Ok.ensures.grew (c.in-Ok.ensures.ok tree is))
