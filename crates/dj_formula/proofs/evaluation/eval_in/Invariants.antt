use Rattle.std.proofs.Common.{◌≡◌, ◌≤◌, Some, length, take}
use Rattle.arena_walk.specs.Tree.{Tree}
use Rattle.arena_walk.specs.Forest.{tree_at}
use Rattle.dj_formula.specs.declared.formula.Gate.{Gate}
use Rattle.dj_formula.specs.Gates.{operands}
use Rattle.dj_formula.proofs.Stack.{StandBefore}
use Rattle.dj_formula.proofs.evaluation.eval_in.Given as goal

abbrev pub invariant-loop-number : goal.invariant-loop-number
invariant-loop-number l =
    record {
      same_length : length l.scratch ≡ length l.initial.scratch;
      few : l.finished ≤ l.number;
      values : (t : Tree Gate) → tree_at operands l.formula.nodes l.formula.root.0 ≡ Some t
          → StandBefore l.chosen l.formula.nodes l.formula.root.0 t l.number (take l.finished l.scratch);
    }
