use Rattle.arena_walk.proofs.Visitors.{each_by_number}
use Rattle.dj_faults.proofs.TreeFaults.{least_original}
use Rattle.dj_faults.proofs.trees.originals_in.Goals as goal

pub walk-requires-clause-admitted : goal.walk-requires-clause-admitted
walk-requires-clause-admitted c = λ tree is. each_by_number _ _ c.args.source.now.exprs c.args.root.0 tree (λ u k below e. tt) is

pub returns-in-Ok : goal.returns-in-Ok
returns-in-Ok c = least_original c.args.source.now.names c.args.source.now.exprs c.args.root.0 c.in-Ok.least c.requires c.in-Ok.ensures.ok
