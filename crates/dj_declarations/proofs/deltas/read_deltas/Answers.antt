use Rattle.std.proofs.Common.{◌≡◌, [], ◌∷◌, ◌++◌, refl, ◌∙◌, arith}
use Rattle.std.proofs.lemmas.Result.{err_from_is_err_and}
use Rattle.dj_reader.proofs.Loops.{no_front}
use Rattle.dj_lexer.specs.declared.token.Dialect.TheVariants.{Line}
use Rattle.dj_expr_reader.specs.Laws.{expr_trees}
use Rattle.dj_declarations.specs.Readings.{delta_reading}
use Rattle.dj_declarations.specs.View.{delta_view}
use Rattle.dj_declarations.proofs.PieceLoops.{token_taken, end_piece_goes, end_piece_refused, pieces_end}
use Rattle.dj_declarations.proofs.OperationLoops.{deltas_shrink}
use Rattle.dj_declarations.proofs.deltas.read_deltas.Goals as goal

pub pieces-init : goal.pieces-init
pieces-init c = (rw c.new-deltas.ensures.items (no_front _), omega arith)

pub read_delta-requires : goal.read_delta-requires
read_delta-requires c = omega (arith, c.pieces.invariant.1, c.requires)

pub pieces-smaller : goal.pieces-smaller
pieces-smaller c =
    let shrinking = deltas_shrink _ (c.expressions_are_read.ensures.trees Line) in
    token_taken shrinking c.args.bytes.now c.pieces.rest.now c.in_ok-delta.after.now _ c.in_ok-delta.ensures.answers

pub pieces-preserved : goal.pieces-preserved
pieces-preserved c =
    let shrinking = deltas_shrink _ (c.expressions_are_read.ensures.trees Line) in
    let pushed : c.push.new.self.items ≡ c.pieces.deltas.items ++ c.in_ok-delta.delta ∷ [] = c.push.ensures.items ∙ rw c.in_ok-push.was refl in (
      rw pushed (end_piece_goes (delta_view c.args.bytes.now) (delta_reading (expr_trees Line)) shrinking c.args.bytes.now c.pieces.deltas.items c.in_ok-delta.delta
          c.pieces.rest.now c.in_ok-delta.after.now _ c.pieces-test.ensures c.in_ok-delta.ensures.answers c.pieces.invariant.0),
      omega (arith, c.in_ok-delta.ensures.fewer, c.pieces.invariant.1),
    )

pub returns-in_err-delta-clause-answers : goal.returns-in_err-delta-clause-answers
returns-in_err-delta-clause-answers c =
    let shrinking = deltas_shrink _ (c.expressions_are_read.ensures.trees Line) in
    let p = err_from_is_err_and c.from_residual.result c.from_residual.ensures.1 in
    rw (p.1, p.2) (end_piece_refused (delta_view c.args.bytes.now) (delta_reading (expr_trees Line)) shrinking c.args.bytes.now _ _ c.pieces.rest.now _ c.pieces-test.ensures
    c.in_err-delta.ensures.answers c.pieces.invariant.0)

pub returns-clause-answers : goal.returns-clause-answers
returns-clause-answers c =
    let shrinking = deltas_shrink _ (c.expressions_are_read.ensures.trees Line) in
    pieces_end (delta_view c.args.bytes.now) (delta_reading (expr_trees Line)) shrinking c.args.bytes.now _ c.pieces.rest.now _ c.pieces-test.ensures c.pieces.invariant.0

pub returns-clause-fewer : goal.returns-clause-fewer
returns-clause-fewer c = c.pieces.invariant.1
