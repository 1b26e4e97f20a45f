use Rattle.std.proofs.Common.{◌≡◌, [], ◌∷◌, ◌++◌, refl, sym, ◌∙◌, arith}
use Rattle.std.proofs.lemmas.Result.{err_from_is_err_and}
use Rattle.std.specs.Prelude.{codes}
use Rattle.dj_lexer.specs.Symbols.{symbols_of}
use Rattle.dj_reader.proofs.Loops.{no_front}
use Rattle.dj_lexer.specs.declared.token.Dialect.TheVariants.{Line}
use Rattle.dj_expr_reader.specs.Laws.{expr_trees}
use Rattle.dj_declarations.specs.Readings.{member_operation_reading}
use Rattle.dj_declarations.specs.View.{member_op_view}
use Rattle.dj_declarations.proofs.PieceLoops.{token_taken, piece_goes, piece_refused, pieces_close}
use Rattle.dj_declarations.proofs.OperationLoops.{member_operations_shrink}
use Rattle.dj_declarations.proofs.operations.read_member_ops.Goals as goal

pub pieces-init : goal.pieces-init
pieces-init c = (rw c.new-ops.ensures.items (no_front _), omega arith)

pub read_member_op-requires : goal.read_member_op-requires
read_member_op-requires c = omega (arith, c.pieces.invariant.1, c.requires)

pub pieces-smaller : goal.pieces-smaller
pieces-smaller c =
    let shrinking = member_operations_shrink _ (c.expressions_are_read.ensures.trees Line) in
    token_taken shrinking c.args.bytes.now c.pieces.rest.now c.in_ok-op.after.now _ c.in_ok-op.ensures.answers

pub pieces-preserved : goal.pieces-preserved
pieces-preserved c =
    let shrinking = member_operations_shrink _ (c.expressions_are_read.ensures.trees Line) in
    let pushed : c.push.new.self.items ≡ c.pieces.ops.items ++ c.in_ok-op.op ∷ [] = c.push.ensures.items ∙ rw c.in_ok-push.was refl in (
      rw pushed (piece_goes (member_op_view c.args.bytes.now) (codes "}") (member_operation_reading (expr_trees Line)) shrinking refl c.pieces.ops.items c.in_ok-op.op
          (symbols_of c.args.bytes.now c.pieces.rest.now) (symbols_of c.args.bytes.now c.in_ok-op.after.now) _ (sym c.pieces-test.ensures) c.in_ok-op.ensures.answers c.pieces.invariant.0),
      omega (arith, c.in_ok-op.ensures.fewer, c.pieces.invariant.1),
    )

pub returns-in_err-op-clause-answers : goal.returns-in_err-op-clause-answers
returns-in_err-op-clause-answers c =
    let shrinking = member_operations_shrink _ (c.expressions_are_read.ensures.trees Line) in
    let p = err_from_is_err_and c.from_residual.result c.from_residual.ensures.1 in
    rw (p.1, p.2) (piece_refused (member_op_view c.args.bytes.now) (codes "}") (member_operation_reading (expr_trees Line)) shrinking refl c.args.bytes.now _ _
    (symbols_of c.args.bytes.now c.pieces.rest.now) _ (sym c.pieces-test.ensures) c.in_err-op.ensures.answers c.pieces.invariant.0)

pub returns-clause-answers : goal.returns-clause-answers
returns-clause-answers c =
    let shrinking = member_operations_shrink _ (c.expressions_are_read.ensures.trees Line) in
    pieces_close (member_op_view c.args.bytes.now) (codes "}") (member_operation_reading (expr_trees Line)) shrinking refl _ (symbols_of c.args.bytes.now c.pieces.rest.now) _ _ _
    c.in_ok-rest.ensures.answers c.pieces.invariant.0

pub returns-clause-fewer : goal.returns-clause-fewer
returns-clause-fewer c = omega (arith, c.in_ok-rest.ensures.fewer, c.pieces.invariant.1)
