use Rattle.std.proofs.Common.{◌≡◌, [], ◌∷◌, ◌++◌, refl, sym, ◌∙◌, arith}
use Rattle.std.specs.Prelude.{codes}
use Rattle.std.proofs.lemmas.Result.{err_from_is_err_and}
use Rattle.dj_lexer.specs.Symbols.{symbols_of}
use Rattle.dj_reader.specs.Terminals.{is_the_sign}
use Rattle.dj_reader.specs.Combining.{a_name, comma_and}
use Rattle.dj_reader.proofs.Loops.{stops}
use Rattle.dj_declarations.specs.View.{spot_at}
use Rattle.dj_declarations.proofs.PieceLoops.{token_taken, piece_goes, pieces_close}
use Rattle.dj_declarations.proofs.PartLoops.{name_shrinks}
use Rattle.dj_declarations.proofs.sources.read_more_names.Goals as goal

pub pieces-init : goal.pieces-init
pieces-init c =
    let pushed : c.push.new.self.items ≡ c.args.first ∷ [] = c.push.ensures.items ∙ rw (c.in_ok-push.was, c.new-names.ensures.items) refl in
    (rw pushed refl, omega arith)

pub pieces-smaller : goal.pieces-smaller
pieces-smaller c = token_taken name_shrinks c.args.bytes.now c.pieces.rest.now c.in_ok-name.after.now _ c.in_ok-name.ensures.answers

pub pieces-preserved : goal.pieces-preserved
pieces-preserved c =
    let pushed : c.push-in-pieces.new.self.items ≡ c.pieces.names.items ++ c.in_ok-name.name ∷ [] = c.push-in-pieces.ensures.items ∙ rw c.in_ok-push-2.was refl in (
      rw pushed (piece_goes (spot_at c.args.bytes.now) (codes ";") (comma_and a_name) name_shrinks refl c.pieces.names.items c.in_ok-name.name
          (symbols_of c.args.bytes.now c.pieces.rest.now) (symbols_of c.args.bytes.now c.in_ok-name.after.now) _ (sym c.pieces-test.ensures) c.in_ok-name.ensures.answers c.pieces.invariant.0),
      omega (arith, c.in_ok-name.ensures.fewer, c.pieces.invariant.1),
    )

pub returns-in_err-name-clause-answers : goal.returns-in_err-name-clause-answers
returns-in_err-name-clause-answers c =
    let p = err_from_is_err_and c.from_residual-in_err-name.result c.from_residual-in_err-name.ensures.1 in
    rw (p.1, p.2) (stops (is_the_sign (codes ";")) (comma_and a_name) name_shrinks refl _ (symbols_of c.args.bytes.now c.pieces.rest.now) _ _ (sym c.pieces-test.ensures) c.in_err-name.ensures.answers c.pieces.invariant.0)

pub returns-clause-answers : goal.returns-clause-answers
returns-clause-answers c =
    pieces_close (spot_at c.args.bytes.now) (codes ";") (comma_and a_name) name_shrinks refl _ (symbols_of c.args.bytes.now c.pieces.rest.now) _ _ _ c.in_ok-rest.ensures.answers c.pieces.invariant.0

pub returns-clause-fewer : goal.returns-clause-fewer
returns-clause-fewer c = omega (arith, c.in_ok-rest.ensures.fewer, c.pieces.invariant.1)
