use Rattle.std.proofs.Common.{◌≡◌, [], ◌∷◌, ◌++◌, refl, sym, ◌∙◌, arith}
use Rattle.std.proofs.lemmas.Result.{err_from_is_err_and}
use Rattle.std.specs.Prelude.{codes}
use Rattle.dj_lexer.specs.Symbols.{symbols_of}
use Rattle.dj_reader.proofs.Loops.{no_front}
use Rattle.dj_expr_reader.specs.Laws.{expr_trees}
use Rattle.dj_declarations.specs.Readings.{member_reading}
use Rattle.dj_declarations.specs.View.{member_view}
use Rattle.dj_declarations.proofs.PieceLoops.{token_taken, piece_goes, piece_refused, pieces_close}
use Rattle.dj_declarations.proofs.MemberLoops.{member_shrinks}
use Rattle.dj_declarations.proofs.members.read_members.Goals as goal

pub pieces-init : goal.pieces-init
pieces-init c = (rw c.new-members.ensures.items (no_front _), omega arith)

pub read_member-requires : goal.read_member-requires
read_member-requires c = omega (arith, c.pieces.invariant.1, c.requires)

pub pieces-smaller : goal.pieces-smaller
pieces-smaller c =
    let shrinking = member_shrinks _ _ (c.expressions_are_read.ensures.trees c.args.dialect) in
    token_taken shrinking c.args.bytes.now c.pieces.rest.now c.in_ok-member.after.now _ c.in_ok-member.ensures.answers

pub pieces-preserved : goal.pieces-preserved
pieces-preserved c =
    let shrinking = member_shrinks _ _ (c.expressions_are_read.ensures.trees c.args.dialect) in
    let pushed : c.push.new.self.items ≡ c.pieces.members.items ++ c.in_ok-member.member ∷ [] = c.push.ensures.items ∙ rw c.in_ok-push.was refl in (
      rw pushed (piece_goes (member_view c.args.bytes.now) (codes "}") (member_reading (expr_trees c.args.dialect)) shrinking refl c.pieces.members.items c.in_ok-member.member
          (symbols_of c.args.bytes.now c.pieces.rest.now) (symbols_of c.args.bytes.now c.in_ok-member.after.now) _ (sym c.pieces-test.ensures) c.in_ok-member.ensures.answers c.pieces.invariant.0),
      omega (arith, c.in_ok-member.ensures.fewer, c.pieces.invariant.1),
    )

pub returns-in_err-member-clause-answers : goal.returns-in_err-member-clause-answers
returns-in_err-member-clause-answers c =
    let shrinking = member_shrinks _ _ (c.expressions_are_read.ensures.trees c.args.dialect) in
    let p = err_from_is_err_and c.from_residual.result c.from_residual.ensures.1 in
    rw (p.1, p.2) (piece_refused (member_view c.args.bytes.now) (codes "}") (member_reading (expr_trees c.args.dialect)) shrinking refl c.args.bytes.now _ _
    (symbols_of c.args.bytes.now c.pieces.rest.now) _ (sym c.pieces-test.ensures) c.in_err-member.ensures.answers c.pieces.invariant.0)

pub returns-clause-answers : goal.returns-clause-answers
returns-clause-answers c =
    let shrinking = member_shrinks _ _ (c.expressions_are_read.ensures.trees c.args.dialect) in
    pieces_close (member_view c.args.bytes.now) (codes "}") (member_reading (expr_trees c.args.dialect)) shrinking refl _ (symbols_of c.args.bytes.now c.pieces.rest.now) _ _ _
    c.in_ok-rest.ensures.answers c.pieces.invariant.0

pub returns-clause-fewer : goal.returns-clause-fewer
returns-clause-fewer c = omega (arith, c.in_ok-rest.ensures.fewer, c.pieces.invariant.1)
