use Rattle.std.proofs.Common.{true, [], ◌∷◌, ◌++◌, Some, length, ap, ◌∙◌, length-append, arith}
use Rattle.std.specs.Option.{option_map}
use Rattle.arena_walk.specs.Tree.{over}
use Rattle.arena_walk.specs.Forest.{trees}
use Rattle.arena_walk.proofs.Visitors.{trees-nil}
use Rattle.dj_formula.specs.declared.formula.Gate.TheVariants.{Constant}
use Rattle.dj_formula.specs.Gates.{operands}
use Rattle.dj_formula.specs.Value.{value_of}
use Rattle.dj_conditions.proofs.PushedGates.{no_operands}
use Rattle.dj_conditions.proofs.building.constant_true.Goals as goal

pub returns : goal.returns
returns c = λ source.
    let pushed = c.in_ok-root.ensures in
    let none = ap (trees operands) c.new-nodes.ensures ∙ trees-nil operands in
    let tree = pushed.tree ∙ ap (λ ts. Some (over (Constant true) ts)) (no_operands _ true none) in
    record {
      there = omega (arith, pushed.number, ap length pushed.nodes, length-append c.new-nodes.result (Constant true ∷ []));
      tree = tree;
      nodes = pushed.nodes ∙ ap (λ ns. ns ++ Constant true ∷ []) c.new-nodes.ensures;
      value = λ choice. ap (option_map (value_of choice)) tree;
    }
