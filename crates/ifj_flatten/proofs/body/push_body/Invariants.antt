use Rattle.std.proofs.Common.{[], ◌∷◌}
use Rattle.std.specs.Prelude.{All}
use Rattle.dj_names.specs.Texts.{Extends}
use Rattle.dj_tree.specs.Plain.{plain_expr}
use Rattle.dj_tree.specs.WellFormed.{IsExprNode}
use Rattle.dj_calculus.specs.FlatTables.{calling}
use Rattle.ifj_flatten.specs.Pieces.{forest, MakesAll, total_work}
use Rattle.ifj_flatten.proofs.body.push_body.Given as goal

abbrev pub invariant-pieces : goal.invariant-pieces
invariant-pieces l =
    All (IsExprNode l.made.names) l.made.exprs × Extends l.fn.made.names l.made.names
    × MakesAll l.called l.from l.exprs l.pieces (calling l.called (plain_expr l.from l.exprs l.fn.root.0) ∷ []) (forest l.made.names l.made.exprs)

abbrev pub decreases-pieces : goal.decreases-pieces
decreases-pieces l = total_work l.exprs l.pieces
