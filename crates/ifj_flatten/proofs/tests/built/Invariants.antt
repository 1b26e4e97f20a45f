use Rattle.std.proofs.Common.{◌≡◌, ◌<◌, length}
use Rattle.std.specs.Prelude.{All}
use Rattle.arena_walk.specs.Forest.{trees}
use Rattle.dj_tree.specs.Arities.{expr_arity}
use Rattle.dj_tree.specs.WellFormed.{IsExprNode}
use Rattle.ifj_flatten.proofs.tests.built.Given as goal

abbrev pub invariant-loop-node : goal.invariant-loop-node
invariant-loop-node l =
    record {
      all : length l.exprs ≡ l.node-index;
      finished : l.finished ≡ length (trees expr_arity l.exprs);
      root : 0 < l.node-index → l.root.0 < l.node-index;
      known : All (IsExprNode l.names) l.exprs;
    }
