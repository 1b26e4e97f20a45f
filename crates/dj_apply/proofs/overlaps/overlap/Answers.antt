use Rattle.std.proofs.Common.{List, map, slice_get, sym, ap, ◌∙◌, subst}
use Rattle.dj_tree.specs.Trees as plain
use Rattle.dj_tree.specs.Plain.{plain_operation}
use Rattle.dj_apply.specs.Least.{IsLeastBy}
use Rattle.dj_apply.specs.Overlaps.{IsNoLater, OperationsClash}
use Rattle.dj_apply.proofs.OverlapLemmas.{overlap_told}
use Rattle.dj_apply.proofs.overlaps.overlap.Goals as goal

pub returns : goal.returns
returns c = λ one other first second.
    let s = c.source-source.result.now in
    let ones = c.operations_of-ones.ensures.operations one (ap (λ (x : plain.Source). slice_get x.deltas c.args.first) c.source-source.ensures.line ∙ first) in
    let others = c.operations_of-others.ensures.operations other (ap (λ (x : plain.Source). slice_get x.deltas c.args.second) c.source-source.ensures.line ∙ second) in
    overlap_told one other c.least_overlap.result
    (subst (λ (xs : List plain.Operation). IsLeastBy IsNoLater (OperationsClash xs other.operations) c.least_overlap.result) (sym ones)
    (subst (λ (ys : List plain.Operation). IsLeastBy IsNoLater (OperationsClash (map (plain_operation s.names s.exprs) c.operations_of-ones.result.now) ys) c.least_overlap.result) (sym others) c.least_overlap.ensures))
