use Rattle.std.proofs.Common.{◌≡◌, ℕ, ◌+◌, drop, take, Some, [], ◌∷◌, map, length, ap, ◌∙◌, length-append, length-take, arith}
use Rattle.arena_walk.specs.Tree.{over}
use Rattle.arena_walk.specs.Forest.{trees, first_number}
use Rattle.arena_walk.proofs.SlotLemmas.{same_first}
use Rattle.arena_walk.proofs.Visitors.{trees-nil, nodes_to}
use Rattle.dj_tree.specs.Arities.{formula_arity}
use Rattle.dj_tree.specs.Plain.{plain_source, plain_spot}
use Rattle.dj_tree.specs.WellFormed.{IsFormulaNode}
use Rattle.dj_tree.specs.declared.source.Source.{Source}
use Rattle.dj_tree.specs.declared.formula.FormulaNode.{FormulaNode}
use Rattle.dj_formula.specs.declared.formula.Gate.{Gate}
use Rattle.dj_formula.specs.Gates.{operands}
use Rattle.dj_conditions.proofs.Names.{of_all}
use Rattle.dj_conditions.proofs.PushedGates.{plain_gate, same_gate, same_operands, pushed_first, pushed_enough, pushed_next, pushed_last, pushed_at, made_first, made_next, tree_there, stands_for}
use Rattle.dj_conditions.proofs.building.formula_of.Goals as goal

abbrev gate_in : Source → FormulaNode → Gate
gate_in s = plain_gate (map (plain_spot s.names) s.features) s.names

count_in : (s : Source) (n : FormulaNode) → operands (gate_in s n) ≡ formula_arity n
count_in s n = same_operands (map (plain_spot s.names) s.features) s.names n

pub loop-number-init : goal.loop-number-init
loop-number-init c =
    let s = c.args.source.now in
    record {
      few = omega (arith, ap length c.new-nodes.ensures);
      pushed = λ t is. pushed_first (gate_in s) s.formulas c.args.root.0 t c.first-first.result.0 _ (same_first formula_arity s.formulas c.args.root.0 _ t is c.first-first.ensures.tree)
          (ap (trees operands) c.new-nodes.ensures ∙ trees-nil operands) is (c.first-first.ensures.whole t is);
      made = λ t is. made_first (gate_in s) s.formulas (first_number c.args.root.0 t) _ _ c.new-nodes.ensures (same_first formula_arity s.formulas c.args.root.0 _ t is c.first-first.ensures.tree);
    }

pub push-requires-clause-enough : goal.push-requires-clause-enough
push-requires-clause-enough c =
    let s = c.args.source.now in
    let node = c.get-node.result.now in
    let here = c.get-node.ensures.node in
    let is_gate = c.gate.ensures ∙ same_gate s.names c.requires.distinct s.features c.requires.well_formed.features c.args.features.now.keys c.requires.features node (of_all (IsFormulaNode s.names) s.formulas _ node c.requires.well_formed.formula_nodes here) in
    let tree = tree_there s.formulas c.args.root.0 c.requires.there in
    omega (arith, ap operands is_gate, count_in s node, pushed_enough (gate_in s) s.formulas c.args.root.0 tree.0 c.loop-number.number node here (omega (arith, c.loop-number-test.true)) (trees operands c.loop-number.nodes) (c.loop-number.invariant.pushed tree.0 tree.1))

pub loop-number-preserved : goal.loop-number-preserved
loop-number-preserved c =
    let s = c.args.source.now in
    let node = c.get-node.result.now in
    let here = c.get-node.ensures.node in
    let is_gate = c.gate.ensures ∙ same_gate s.names c.requires.distinct s.features c.requires.well_formed.features c.args.features.now.keys c.requires.features node (of_all (IsFormulaNode s.names) s.formulas _ node c.requires.well_formed.formula_nodes here) in
    let pushed = c.in_ok-push.ensures in
    record {
      few = omega (arith, ap length pushed.nodes, length-append c.loop-number.nodes (c.gate.result ∷ []), c.loop-number.invariant.few);
      pushed = λ t is. pushed_next (gate_in s) s.formulas c.args.root.0 t c.loop-number.number node here (omega (arith, c.loop-number-test.true)) c.gate.result (trees operands c.loop-number.nodes) _ is_gate (count_in s node) pushed.trees
          (c.loop-number.invariant.pushed t is);
      made = λ t is.
          let first = same_first formula_arity s.formulas c.args.root.0 _ t is c.first-first.ensures.tree in
          made_next (gate_in s) s.formulas (first_number c.args.root.0 t) c.loop-number.number node c.gate.result c.loop-number.nodes _ here (omega arith) is_gate pushed.nodes (c.loop-number.invariant.made t is);
    }

pub push-requires-2-clause-enough : goal.push-requires-2-clause-enough
push-requires-2-clause-enough c =
    let s = c.args.source.now in
    let node = c.get.result.now in
    let here = c.get.ensures.node in
    let is_gate = c.gate-2.ensures ∙ same_gate s.names c.requires.distinct s.features c.requires.well_formed.features c.args.features.now.keys c.requires.features node (of_all (IsFormulaNode s.names) s.formulas _ node c.requires.well_formed.formula_nodes here) in
    let tree = tree_there s.formulas c.args.root.0 c.requires.there in
    let at : c.loop-number.number ≡ c.args.root.0 = omega arith in
    omega (
      arith,
      ap operands is_gate,
      count_in s node,
      pushed_enough (gate_in s) s.formulas c.args.root.0 tree.0 c.args.root.0 node here (omega arith) (trees operands c.loop-number.nodes)
          (pushed_at (gate_in s) s.formulas c.args.root.0 tree.0 _ _ _ at (c.loop-number.invariant.pushed tree.0 tree.1)),
    )

pub returns : goal.returns
returns c =
    let s = c.args.source.now in
    let node = c.get.result.now in
    let here = c.get.ensures.node in
    let is_gate = c.gate-2.ensures ∙ same_gate s.names c.requires.distinct s.features c.requires.well_formed.features c.args.features.now.keys c.requires.features node (of_all (IsFormulaNode s.names) s.formulas _ node c.requires.well_formed.formula_nodes here) in
    let pushed = c.in_ok-root.ensures in
    let kids = c.get.ensures.tree in
    let t = over node kids.0 in
    let at : c.loop-number.number ≡ c.args.root.0 = omega arith in
    stands_for s.names s.formulas (plain_source s) (record { nodes = c.push-2.new.self; root = c.in_ok-root.root }) c.args.root.0 t (omega (arith, pushed.number, ap length pushed.nodes, length-append c.loop-number.nodes (c.gate-2.result ∷ []))) kids.2 (c.get.ensures.whole t kids.2)
    (pushed.tree ∙ ap Some (pushed_last (gate_in s) s.formulas c.args.root.0 t node c.gate-2.result (trees operands c.loop-number.nodes) here is_gate (count_in s node) (omega (arith, length-take (c.args.root.0 + 1) s.formulas))
    (pushed_at (gate_in s) s.formulas c.args.root.0 t _ _ _ at (c.loop-number.invariant.pushed t kids.2))))
    (made_next (gate_in s) s.formulas (first_number c.args.root.0 t) c.args.root.0 node c.gate-2.result c.loop-number.nodes _ here
    (omega (arith, same_first formula_arity s.formulas c.args.root.0 _ t kids.2 c.first-first.ensures.tree)) is_gate pushed.nodes
    (c.loop-number.invariant.made t kids.2 ∙ ap (λ (k : ℕ). map (gate_in s) (drop (first_number c.args.root.0 t) (take k s.formulas))) at)
    ∙ ap (map (gate_in s)) (nodes_to formula_arity s.formulas c.args.root.0 t kids.2))
