use Rattle.std.proofs.Common.{ap}
use Rattle.sat_clauses.specs.Literals.{opposite}
use Rattle.gate_encoder.specs.Entries.{all_of, any_of}
use Rattle.gate_encoder.specs.Formulas.{node_entries}
use Rattle.gate_encoder.proofs.Nodes.{node_wrote, node_cut}
use Rattle.gate_encoder.proofs.gates.Gates.node.Goals as goal

pub returns-in-And-clause-written : goal.returns-in-And-clause-written
returns-in-And-clause-written g c =
    node_wrote g.K.PartialEq.eq c.args.self.now c.and.new.self c.and.result _ c.node.result (λ k. all_of k c.args.operands.now) c.args.gate.now c.args.operands.now c.node.ensures
    (λ name. ap (λ gate. node_entries opposite name gate c.args.operands.now) c.in-And.is) c.and.ensures.written

pub returns-in-And-clause-err : goal.returns-in-And-clause-err
returns-in-And-clause-err g c =
    node_cut g.K.PartialEq.eq c.args.self.now c.and.new.self c.and.result _ c.node.result (λ k. all_of k c.args.operands.now) c.args.gate.now c.args.operands.now c.node.ensures
    (λ name. ap (λ gate. node_entries opposite name gate c.args.operands.now) c.in-And.is) c.and.ensures.err

pub returns-in-Or-clause-written : goal.returns-in-Or-clause-written
returns-in-Or-clause-written g c =
    node_wrote g.K.PartialEq.eq c.args.self.now c.or.new.self c.or.result _ c.node-in-Or.result (λ k. any_of k c.args.operands.now) c.args.gate.now c.args.operands.now c.node-in-Or.ensures
    (λ name. ap (λ gate. node_entries opposite name gate c.args.operands.now) c.in-Or.is) c.or.ensures.written

pub returns-in-Or-clause-err : goal.returns-in-Or-clause-err
returns-in-Or-clause-err g c =
    node_cut g.K.PartialEq.eq c.args.self.now c.or.new.self c.or.result _ c.node-in-Or.result (λ k. any_of k c.args.operands.now) c.args.gate.now c.args.operands.now c.node-in-Or.ensures
    (λ name. ap (λ gate. node_entries opposite name gate c.args.operands.now) c.in-Or.is) c.or.ensures.err
