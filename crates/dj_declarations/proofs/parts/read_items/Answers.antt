use Rattle.std.proofs.Common.{◌≡◌, [], ◌∷◌, ◌++◌, refl, sym, ◌∙◌, arith}
use Rattle.std.specs.Prelude.{codes}
use Rattle.std.proofs.lemmas.Result.{err_from_is_err_and}
use Rattle.dj_lexer.specs.Symbols.{symbols_of}
use Rattle.dj_reader.proofs.Loops.{no_front}
use Rattle.dj_formula_reader.specs.Laws.{formula_trees}
use Rattle.dj_declarations.specs.Readings.{item_reading}
use Rattle.dj_declarations.specs.View.{item_view}
use Rattle.dj_declarations.proofs.PieceLoops.{token_taken, piece_goes, piece_refused, pieces_close}
use Rattle.dj_declarations.proofs.PartLoops.{item_shrinks}
use Rattle.dj_declarations.proofs.parts.read_items.Goals as goal

pub pieces-init : goal.pieces-init
pieces-init c = (rw c.new-items.ensures.items (no_front _), omega arith)

pub pieces-smaller : goal.pieces-smaller
pieces-smaller c = token_taken (item_shrinks formula_trees c.formulas_are_read.ensures.trees) c.args.bytes.now c.pieces.rest.now c.in_ok-item.after.now _ c.in_ok-item.ensures.answers

pub pieces-preserved : goal.pieces-preserved
pieces-preserved c =
    let pushed : c.push.new.self.items ≡ c.pieces.items.items ++ c.in_ok-item.item ∷ [] = c.push.ensures.items ∙ rw c.in_ok-push.was refl in (
      rw pushed (piece_goes (item_view c.args.bytes.now) (codes "}") (item_reading formula_trees) (item_shrinks formula_trees c.formulas_are_read.ensures.trees) refl c.pieces.items.items c.in_ok-item.item
          (symbols_of c.args.bytes.now c.pieces.rest.now) (symbols_of c.args.bytes.now c.in_ok-item.after.now) _ (sym c.pieces-test.ensures) c.in_ok-item.ensures.answers c.pieces.invariant.0),
      omega (arith, c.in_ok-item.ensures.fewer, c.pieces.invariant.1),
    )

pub returns-in_err-item-clause-answers : goal.returns-in_err-item-clause-answers
returns-in_err-item-clause-answers c =
    let p = err_from_is_err_and c.from_residual.result c.from_residual.ensures.1 in
    rw (p.1, p.2) (piece_refused (item_view c.args.bytes.now) (codes "}") (item_reading formula_trees) (item_shrinks formula_trees c.formulas_are_read.ensures.trees) refl c.args.bytes.now _ _
    (symbols_of c.args.bytes.now c.pieces.rest.now) _ (sym c.pieces-test.ensures) c.in_err-item.ensures.answers c.pieces.invariant.0)

pub returns-clause-answers : goal.returns-clause-answers
returns-clause-answers c =
    pieces_close (item_view c.args.bytes.now) (codes "}") (item_reading formula_trees) (item_shrinks formula_trees c.formulas_are_read.ensures.trees) refl _ (symbols_of c.args.bytes.now c.pieces.rest.now)
    _ _ _ c.in_ok-rest.ensures.answers c.pieces.invariant.0

pub returns-clause-fewer : goal.returns-clause-fewer
returns-clause-fewer c = omega (arith, c.in_ok-rest.ensures.fewer, c.pieces.invariant.1)
