use Rattle.std.proofs.Common.{rules, ◌<◌, ℕ, Some, Bor, List, length, map, refl, ap, ◌∙◌, arith}
use Rattle.std.proofs.lemmas.Option.{slice_get_read}
use Rattle.std.proofs.lemmas.List.{length-map}
use Rattle.dj_line.specs.Lines.{plain_line}
use Rattle.dj_line.proofs.Choosing.{unknown_piece, repeated_piece, feature_within, chooses_next, chooses_all}
use Rattle.dj_line.proofs.line.Line.choose.Goals as goal
use Rattle.dj_line.proofs.Lists.{piece_at}

pub returns-in_default : goal.returns-in_default
returns-in_default c =
    let line = c.args.self.now in
    unknown_piece (plain_line line) line.accepted (map (λ p. p.now) c.args.pieces.now) c.loop-k.k c.loop-k.chosen.items c.loop-k.invariant _ (piece_at c.args.pieces.now c.loop-k.k _ c.loop-k-test.true) c.in_default.ensures

pub index-requires : goal.index-requires
index-requires c =
    let line = c.args.self.now in
    let inside : c.in-Some.number < length c.loop-k.chosen.items =
    feature_within (plain_line line) line.accepted (map (λ p. p.now) c.args.pieces.now) c.loop-k.k c.loop-k.chosen.items c.loop-k.invariant _ (piece_at c.args.pieces.now c.loop-k.k _ c.loop-k-test.true) c.in-Some.number c.in-Some.ensures in
    search rules

pub returns-then-index : goal.returns-then-index
returns-then-index c =
    let line = c.args.self.now in
    let inside = feature_within (plain_line line) line.accepted (map (λ p. p.now) c.args.pieces.now) c.loop-k.k c.loop-k.chosen.items c.loop-k.invariant _ (piece_at c.args.pieces.now c.loop-k.k _ c.loop-k-test.true) c.in-Some.number c.in-Some.ensures in
    let read = slice_get_read c.loop-k.chosen.items (length c.loop-k.chosen.items) c.in-Some.number c.index.result.now refl inside c.index.ensures in
    repeated_piece (plain_line line) line.accepted (map (λ p. p.now) c.args.pieces.now) c.loop-k.k c.loop-k.chosen.items c.loop-k.invariant _ (piece_at c.args.pieces.now c.loop-k.k _ c.loop-k-test.true) c.in-Some.number c.in-Some.ensures
    (read ∙ ap Some c.if-index.true)

pub index_mut-requires : goal.index_mut-requires
index_mut-requires c =
    let line = c.args.self.now in
    let inside : c.in-Some.number < length c.loop-k.chosen.items =
    feature_within (plain_line line) line.accepted (map (λ p. p.now) c.args.pieces.now) c.loop-k.k c.loop-k.chosen.items c.loop-k.invariant _ (piece_at c.args.pieces.now c.loop-k.k _ c.loop-k-test.true) c.in-Some.number c.in-Some.ensures in
    search rules

pub loop-k-preserved : goal.loop-k-preserved
loop-k-preserved c =
    let line = c.args.self.now in
    let inside = feature_within (plain_line line) line.accepted (map (λ p. p.now) c.args.pieces.now) c.loop-k.k c.loop-k.chosen.items c.loop-k.invariant _ (piece_at c.args.pieces.now c.loop-k.k _ c.loop-k-test.true) c.in-Some.number c.in-Some.ensures in
    let read = slice_get_read c.loop-k.chosen.items (length c.loop-k.chosen.items) c.in-Some.number c.index.result.now refl inside c.index.ensures in
    chooses_next (plain_line line) line.accepted (map (λ p. p.now) c.args.pieces.now) c.loop-k.k c.loop-k.chosen.items c.loop-k.invariant _ (piece_at c.args.pieces.now c.loop-k.k _ c.loop-k-test.true) c.in-Some.number c.in-Some.ensures
    (read ∙ ap Some c.if-index.false)

pub returns : goal.returns
returns c =
    let line = c.args.self.now in
    chooses_all (plain_line line) line.accepted (map (λ p. p.now) c.args.pieces.now) c.loop-k.k c.loop-k.chosen.items (omega (arith, length-map c.args.pieces.now (λ (p : Bor (List ℕ)). p.now))) c.loop-k.invariant
