use Rattle.std.proofs.Common.{◌∙◌}
use Rattle.arena_walk.proofs.Visitors.{outs_fold}
use Rattle.dj_formula.specs.Value.{gate_value}
use Rattle.dj_formula.proofs.evaluation.EvaluationVisitGate.node.Goals as goal

pub returns-clause-ok : goal.returns-clause-ok
returns-clause-ok c = λ kids stand _.
    c.gate_value.ensures ∙ outs_fold (gate_value c.args.self.now.chosen.now) c.args.gate.now kids c.args.children.now stand
