use Rattle.std.proofs.Common.{◌≡◌, [], ◌∷◌, ◌++◌, refl, sym, ◌∙◌, arith}
use Rattle.std.proofs.lemmas.Result.{err_from_is_err_and}
use Rattle.std.specs.Prelude.{codes}
use Rattle.dj_lexer.specs.Symbols.{symbols_of}
use Rattle.dj_reader.specs.Terminals.{is_the_sign}
use Rattle.dj_reader.specs.Combining.{comma_and}
use Rattle.dj_reader.proofs.Loops.{stops}
use Rattle.dj_declarations.specs.Readings.{typed_reading}
use Rattle.dj_declarations.specs.View.{field_view}
use Rattle.dj_declarations.proofs.PieceLoops.{token_taken, piece_goes, pieces_close}
use Rattle.dj_declarations.proofs.MemberLoops.{comma_shrinks}
use Rattle.dj_declarations.proofs.members.read_more_typed.Goals as goal

pub pieces-init : goal.pieces-init
pieces-init c =
    let pushed : c.push.new.self.items ≡ c.args.first ∷ [] = c.push.ensures.items ∙ rw (c.in_ok-push.was, c.new-fields.ensures.items) refl in
    (rw pushed refl, omega arith)

pub pieces-smaller : goal.pieces-smaller
pieces-smaller c = token_taken comma_shrinks c.args.bytes.now c.pieces.rest.now c.in_ok-field.after.now _ c.in_ok-field.ensures.answers

pub pieces-preserved : goal.pieces-preserved
pieces-preserved c =
    let pushed : c.push-in-pieces.new.self.items ≡ c.pieces.fields.items ++ c.in_ok-field.field ∷ [] = c.push-in-pieces.ensures.items ∙ rw c.in_ok-push-2.was refl in (
      rw pushed (piece_goes (field_view c.args.bytes.now) (codes ")") (comma_and typed_reading) comma_shrinks refl c.pieces.fields.items c.in_ok-field.field
          (symbols_of c.args.bytes.now c.pieces.rest.now) (symbols_of c.args.bytes.now c.in_ok-field.after.now) _ (sym c.pieces-test.ensures) c.in_ok-field.ensures.answers c.pieces.invariant.0),
      omega (arith, c.in_ok-field.ensures.fewer, c.pieces.invariant.1),
    )

pub returns-in_err-field-clause-answers : goal.returns-in_err-field-clause-answers
returns-in_err-field-clause-answers c =
    let p = err_from_is_err_and c.from_residual-in_err-field.result c.from_residual-in_err-field.ensures.1 in
    rw (p.1, p.2) (stops (is_the_sign (codes ")")) (comma_and typed_reading) comma_shrinks refl _ (symbols_of c.args.bytes.now c.pieces.rest.now) _ _ (sym c.pieces-test.ensures) c.in_err-field.ensures.answers c.pieces.invariant.0)

pub returns-clause-answers : goal.returns-clause-answers
returns-clause-answers c =
    pieces_close (field_view c.args.bytes.now) (codes ")") (comma_and typed_reading) comma_shrinks refl _ (symbols_of c.args.bytes.now c.pieces.rest.now) _ _ _ c.in_ok-rest.ensures.answers c.pieces.invariant.0

pub returns-clause-fewer : goal.returns-clause-fewer
returns-clause-fewer c = omega (arith, c.in_ok-rest.ensures.fewer, c.pieces.invariant.1)
