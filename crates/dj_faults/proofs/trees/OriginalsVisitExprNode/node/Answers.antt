use Rattle.dj_faults.specs.Inside.{OriginalIn}
use Rattle.dj_faults.proofs.InsideLemmas.{least_tree}
use Rattle.dj_faults.proofs.trees.OriginalsVisitExprNode.node.Goals as goal

pub returns-clause-ok : goal.returns-clause-ok
returns-clause-ok c = λ kids stand _. rw c.least_of.ensures (least_tree OriginalIn c.args.node.now kids c.args.children.now c.original_at.result c.original_at.ensures stand)
