use Rattle.std.proofs.Common.{sym, subst}
use Rattle.std.specs.Prelude.{OnOk}
use Rattle.std.proofs.lemmas.Result.{on_ok_weaker}
use Rattle.java_text.specs.declared.pieces.Piece.{Piece}
use Rattle.java_text.specs.Pieces.{IsDone, IsPiece}
use Rattle.java_text.proofs.Writing.{replaced}
use Rattle.java_text.proofs.expression.write_piece.Goals as goal

pub returns-in-Node : goal.returns-in-Node
returns-in-Node c =
    let names = c.args.names.now in
    let exprs = c.args.exprs.now in
    let there = subst (IsPiece names exprs) c.in-Node.is c.requires.known in
    subst (λ (p : Piece). OnOk c.push_node.result (IsDone names exprs p c.args.pieces.now c.push_node.new.pieces c.args.text.now.items c.args.text.now.items)) (sym c.in-Node.is)
    (on_ok_weaker c.push_node.result (λ put. replaced names exprs c.in-Node.at.0 _ _ _ there put) (c.push_node.ensures names c.requires.nodes))
