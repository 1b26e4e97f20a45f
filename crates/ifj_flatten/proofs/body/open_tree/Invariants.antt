use Rattle.ifj_flatten.proofs.Opening.{IsOpening}
use Rattle.ifj_flatten.proofs.body.open_tree.Given as goal

abbrev pub invariant-parts : goal.invariant-parts
invariant-parts l = IsOpening l.exprs l.fn.at.0 l.node l.behind l.end l.fn.pieces l.pieces
