use Rattle.std.proofs.Common.{◌≡◌, [], ◌∷◌, ◌++◌, refl, sym, ◌∙◌, arith}
use Rattle.std.specs.Prelude.{codes}
use Rattle.std.proofs.lemmas.Result.{err_from_is_err_and}
use Rattle.dj_lexer.specs.Symbols.{symbols_of}
use Rattle.dj_reader.proofs.Loops.{no_front}
use Rattle.dj_formula_reader.specs.Laws.{formula_trees}
use Rattle.dj_declarations.specs.Readings.{part_reading}
use Rattle.dj_declarations.specs.View.{part_view}
use Rattle.dj_declarations.proofs.PieceLoops.{token_taken, piece_goes, piece_refused, pieces_close}
use Rattle.dj_declarations.proofs.PartLoops.{part_shrinks}
use Rattle.dj_declarations.proofs.parts.read_parts.Goals as goal

pub pieces-init : goal.pieces-init
pieces-init c = (rw c.new-parts.ensures.items (no_front _), omega arith)

pub pieces-smaller : goal.pieces-smaller
pieces-smaller c = token_taken (part_shrinks formula_trees c.formulas_are_read.ensures.trees) c.args.bytes.now c.pieces.rest.now c.in_ok-part.after.now _ c.in_ok-part.ensures.answers

pub pieces-preserved : goal.pieces-preserved
pieces-preserved c =
    let pushed : c.push.new.self.items ≡ c.pieces.parts.items ++ c.in_ok-part.part ∷ [] = c.push.ensures.items ∙ rw c.in_ok-push.was refl in (
      rw pushed (piece_goes (part_view c.args.bytes.now) (codes "}") (part_reading formula_trees) (part_shrinks formula_trees c.formulas_are_read.ensures.trees) refl c.pieces.parts.items c.in_ok-part.part
          (symbols_of c.args.bytes.now c.pieces.rest.now) (symbols_of c.args.bytes.now c.in_ok-part.after.now) _ (sym c.pieces-test.ensures) c.in_ok-part.ensures.answers c.pieces.invariant.0),
      omega (arith, c.in_ok-part.ensures.fewer, c.pieces.invariant.1),
    )

pub returns-in_err-part-clause-answers : goal.returns-in_err-part-clause-answers
returns-in_err-part-clause-answers c =
    let p = err_from_is_err_and c.from_residual.result c.from_residual.ensures.1 in
    rw (p.1, p.2) (piece_refused (part_view c.args.bytes.now) (codes "}") (part_reading formula_trees) (part_shrinks formula_trees c.formulas_are_read.ensures.trees) refl c.args.bytes.now _ _
    (symbols_of c.args.bytes.now c.pieces.rest.now) _ (sym c.pieces-test.ensures) c.in_err-part.ensures.answers c.pieces.invariant.0)

pub returns-clause-answers : goal.returns-clause-answers
returns-clause-answers c =
    pieces_close (part_view c.args.bytes.now) (codes "}") (part_reading formula_trees) (part_shrinks formula_trees c.formulas_are_read.ensures.trees) refl _ (symbols_of c.args.bytes.now c.pieces.rest.now)
    _ _ _ c.in_ok-rest.ensures.answers c.pieces.invariant.0

pub returns-clause-fewer : goal.returns-clause-fewer
returns-clause-fewer c = omega (arith, c.in_ok-rest.ensures.fewer, c.pieces.invariant.1)
