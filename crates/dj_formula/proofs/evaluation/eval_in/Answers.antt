use Rattle.std.proofs.Common.{◌+◌, ◌-◌, ◌∙◌, take, drop, refl, false, length-take, length-drop, arith}
use Rattle.std.proofs.lemmas.List.{length-set}
use Rattle.arena_walk.proofs.SlotLemmas.{same_first}
use Rattle.dj_formula.specs.Gates.{operands}
use Rattle.dj_formula.proofs.Stack.{stand_first, stand_next, stand_last, operands_stand, gate_is_below}
use Rattle.dj_formula.proofs.Trees.{has_value}
use Rattle.dj_formula.proofs.evaluation.eval_in.Goals as goal

pub loop-number-init : goal.loop-number-init
loop-number-init c =
    let f = c.args.formula.now in
    let first = c.first-first in
    record {
      same_length = refl;
      few = omega arith;
      values = λ t is. stand_first c.args.chosen.now f.nodes f.root.0 t first.result.0 _ (same_first operands f.nodes f.root.0 _ t is first.ensures.tree) refl is (first.ensures.whole t is) (c.requires.known t is);
    }

pub overflow_sub-start : goal.overflow_sub-start
overflow_sub-start c =
    let f = c.args.formula.now in
    let now = c.loop-number in
    let enough = operands_stand c.args.chosen.now f.nodes f.root.0 now.number c.get-gate.result.now c.requires.there c.get-gate.ensures.node c.loop-number-test.true now.scratch now.finished (omega arith) now.invariant.values in
    omega (arith, enough, c.arity.ensures)

pub gate_value-requires-clause-all : goal.gate_value-requires-clause-all
gate_value-requires-clause-all c =
    let f = c.args.formula.now in
    let now = c.loop-number in
    let start = now.finished - c.arity.result in
    let enough = operands_stand c.args.chosen.now f.nodes f.root.0 now.number c.get-gate.result.now c.requires.there c.get-gate.ensures.node c.loop-number-test.true now.scratch now.finished (omega arith) now.invariant.values in
    omega (arith, enough, length-take (now.finished - start) (drop start now.scratch), length-drop start now.scratch, c.arity.ensures)

pub gate_value-requires-clause-known : goal.gate_value-requires-clause-known
gate_value-requires-clause-known c =
    let f = c.args.formula.now in
    let now = c.loop-number in
    gate_is_below c.args.chosen.now f.nodes f.root.0 now.number c.get-gate.result.now c.requires.there c.get-gate.ensures.node c.loop-number-test.true (take now.finished now.scratch) now.invariant.values

pub loop-number-preserved : goal.loop-number-preserved
loop-number-preserved c =
    let f = c.args.formula.now in
    let now = c.loop-number in
    let start = now.finished - c.arity.result in
    let enough = operands_stand c.args.chosen.now f.nodes f.root.0 now.number c.get-gate.result.now c.requires.there c.get-gate.ensures.node c.loop-number-test.true now.scratch now.finished (omega arith) now.invariant.values in
    record {
      same_length = length-set now.scratch start c.gate_value.result ∙ now.invariant.same_length;
      few = omega arith;
      values = λ t is.
          stand_next c.args.chosen.now f.nodes f.root.0 t now.number c.get-gate.result.now c.get-gate.ensures.node c.loop-number-test.true now.scratch now.finished start c.gate_value.result (omega arith)
          (omega (arith, c.arity.ensures, enough)) (omega arith) c.gate_value.ensures (now.invariant.values t is);
    }

pub returns : goal.returns
returns c =
    let f = c.args.formula.now in
    let now = c.loop-number in
    record {
      value = has_value c.args.chosen.now f.nodes f.root.0 _ c.requires.there
          (λ t is. stand_last c.args.chosen.now f.nodes f.root.0 t now.number now.finished now.scratch false (omega (arith, length-take (f.root.0 + 1) f.nodes)) (now.invariant.values t is));
    }
