use Rattle.std.proofs.Common.{nat_eq}
use Rattle.indexmap.specs.IndexSet.{contains}
use Rattle.dj_faults.specs.Inside.{UnknownIn}
use Rattle.dj_faults.proofs.InsideLemmas.{least_tree}
use Rattle.dj_faults.proofs.trees.UnknownNamesVisitFormulaNode.node.Goals as goal

pub returns-clause-ok : goal.returns-clause-ok
returns-clause-ok c = λ kids stand _. rw c.least_of.ensures (least_tree (UnknownIn (contains nat_eq c.args.self.now.features.now)) c.args.node.now kids c.args.children.now c.unknown_at.result c.unknown_at.ensures stand)
