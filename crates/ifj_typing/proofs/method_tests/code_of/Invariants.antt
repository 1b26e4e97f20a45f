use Rattle.std.proofs.Common.{◌≡◌, ◌<◌, ◌≤◌, length}
use Rattle.std.specs.Prelude.{All}
use Rattle.arena_walk.specs.Forest.{trees}
use Rattle.dj_tree.specs.Arities.{expr_arity}
use Rattle.dj_tree.specs.WellFormed.{IsExprNode}
use Rattle.ifj_typing.proofs.method_tests.code_of.Given as goal

abbrev pub invariant-loop-number : goal.invariant-loop-number
invariant-loop-number l =
    record {
      all : length l.exprs ≡ l.number;
      finished : l.finished ≡ length (trees expr_arity l.exprs);
      root : 0 < l.number → l.root.0 < l.number;
      known : All (IsExprNode l.names) l.exprs;
      few : length l.names ≤ l.number;
    }
