use Rattle.std.proofs.Common.{◌≡◌, [], ◌∷◌, ◌++◌, refl, ◌∙◌, arith}
use Rattle.std.proofs.lemmas.Result.{err_from_is_err_and}
use Rattle.dj_reader.proofs.Loops.{no_front}
use Rattle.dj_expr_reader.specs.Laws.{expr_trees}
use Rattle.dj_declarations.specs.Readings.{class_reading}
use Rattle.dj_declarations.specs.View.{class_view}
use Rattle.dj_declarations.proofs.PieceLoops.{token_taken, end_piece_goes, end_piece_refused, pieces_end}
use Rattle.dj_declarations.proofs.MemberLoops.{class_shrinks}
use Rattle.dj_declarations.proofs.classes.read_classes.Goals as goal

pub pieces-init : goal.pieces-init
pieces-init c = (rw c.new-classes.ensures.items (no_front _), omega arith)

pub read_class-requires : goal.read_class-requires
read_class-requires c = omega (arith, c.pieces.invariant.1, c.requires)

pub pieces-smaller : goal.pieces-smaller
pieces-smaller c =
    let shrinking = class_shrinks _ _ (c.expressions_are_read.ensures.trees c.args.dialect) in
    token_taken shrinking c.args.bytes.now c.pieces.rest.now c.in_ok-class.after.now _ c.in_ok-class.ensures.answers

pub pieces-preserved : goal.pieces-preserved
pieces-preserved c =
    let shrinking = class_shrinks _ _ (c.expressions_are_read.ensures.trees c.args.dialect) in
    let pushed : c.push.new.self.items ≡ c.pieces.classes.items ++ c.in_ok-class.class ∷ [] = c.push.ensures.items ∙ rw c.in_ok-push.was refl in (
      rw pushed (end_piece_goes (class_view c.args.bytes.now) (class_reading (expr_trees c.args.dialect)) shrinking c.args.bytes.now c.pieces.classes.items c.in_ok-class.class
          c.pieces.rest.now c.in_ok-class.after.now _ c.pieces-test.ensures c.in_ok-class.ensures.answers c.pieces.invariant.0),
      omega (arith, c.in_ok-class.ensures.fewer, c.pieces.invariant.1),
    )

pub returns-in_err-class : goal.returns-in_err-class
returns-in_err-class c =
    let shrinking = class_shrinks _ _ (c.expressions_are_read.ensures.trees c.args.dialect) in
    let p = err_from_is_err_and c.from_residual.result c.from_residual.ensures.1 in
    record {
      answers =
          rw (p.1, p.2)
          (end_piece_refused (class_view c.args.bytes.now) (class_reading (expr_trees c.args.dialect)) shrinking c.args.bytes.now _ _ c.pieces.rest.now _ c.pieces-test.ensures
          c.in_err-class.ensures.answers c.pieces.invariant.0);
    }

pub returns : goal.returns
returns c =
    let shrinking = class_shrinks _ _ (c.expressions_are_read.ensures.trees c.args.dialect) in
    record {
      answers =
          pieces_end (class_view c.args.bytes.now) (class_reading (expr_trees c.args.dialect)) shrinking c.args.bytes.now _ c.pieces.rest.now _ c.pieces-test.ensures
          c.pieces.invariant.0;
    }
