use Rattle.std.proofs.Common.{◌≡◌, ◌≤◌, Some, length, map, drop, take}
use Rattle.arena_walk.specs.Tree.{Tree}
use Rattle.arena_walk.specs.Forest.{tree_at, trees, first_number}
use Rattle.dj_tree.specs.Arities.{formula_arity}
use Rattle.dj_tree.specs.Plain.{plain_spot}
use Rattle.dj_tree.specs.declared.formula.FormulaNode.{FormulaNode}
use Rattle.dj_formula.specs.Gates.{operands}
use Rattle.dj_conditions.proofs.PushedGates.{plain_gate, PushedBefore}
use Rattle.dj_conditions.proofs.building.formula_of.Given as goal

abbrev pub invariant-loop-number : goal.invariant-loop-number
invariant-loop-number l =
    record {
      few : length l.nodes ≤ l.number;
      pushed : (t : Tree FormulaNode) → tree_at formula_arity l.source.formulas l.root.0 ≡ Some t
          → PushedBefore (plain_gate (map (plain_spot l.source.names) l.source.features) l.source.names) l.source.formulas l.root.0 t l.number (trees operands l.nodes);
      made : (t : Tree FormulaNode) → tree_at formula_arity l.source.formulas l.root.0 ≡ Some t
          → l.nodes ≡ map (plain_gate (map (plain_spot l.source.names) l.source.features) l.source.names) (drop (first_number l.root.0 t) (take l.number l.source.formulas));
    }
