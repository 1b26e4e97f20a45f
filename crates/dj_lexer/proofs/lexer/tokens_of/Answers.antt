use Rattle.std.proofs.Common.{◌-◌, length, arith, subst}
use Rattle.dj_lexer.specs.Pieces.{IsFront}
use Rattle.dj_lexer.proofs.LexerLemmas.{piece_shortens, skipped_at, token_at, piece_fits, reached_skip, reached_bad, reached_open, reached_deep, reached_token, reached_end, same_depth}
use Rattle.dj_lexer.proofs.lexer.tokens_of.Goals as goal

pub loop-found-smaller-in-Skipped : goal.loop-found-smaller-in-Skipped
loop-found-smaller-in-Skipped c =
    let x = c.loop-found.invariant in
    let p = skipped_at _ _ _ _ c.in-Some.ensures c.in-Skipped.is in
    piece_shortens _ _ x.0 p

pub loop-found-preserved-in-Skipped : goal.loop-found-preserved-in-Skipped
loop-found-preserved-in-Skipped c =
    let x = c.loop-found.invariant in
    let p = skipped_at _ _ _ _ c.in-Some.ensures c.in-Skipped.is in
    (p.utf8, reached_skip _ _ _ _ _ x.0 x.1 _ p)

pub overflow_sub-to : goal.overflow_sub-to
overflow_sub-to c =
    let x = c.loop-found.invariant in
    let p = token_at _ _ _ _ _ c.in-Some.ensures c.in-Token.is in
    let fits = piece_fits _ _ _ _ _ _ _ x.0 x.1 p in
    omega (arith, fits)

pub slice_bounds-depth_after-count : goal.slice_bounds-depth_after-count
slice_bounds-depth_after-count c =
    let x = c.loop-found.invariant in
    let p = token_at _ _ _ _ _ c.in-Some.ensures c.in-Token.is in
    let fits = piece_fits _ _ _ _ _ _ _ x.0 x.1 p in
    omega (arith, fits)

pub slice_bounds-depth_after-start : goal.slice_bounds-depth_after-start
slice_bounds-depth_after-start c =
    let x = c.loop-found.invariant in
    let p = token_at _ _ _ _ _ c.in-Some.ensures c.in-Token.is in
    let fits = piece_fits _ _ _ _ _ _ _ x.0 x.1 p in
    omega (arith, fits)

pub returns-then-depth-gt-MAX_DEPTH-clause-fault : goal.returns-then-depth-gt-MAX_DEPTH-clause-fault
returns-then-depth-gt-MAX_DEPTH-clause-fault c =
    let x = c.loop-found.invariant in
    let p = token_at _ _ _ _ _ c.in-Some.ensures c.in-Token.is in
    let same = same_depth c.loop-found.depth c.depth_after-depth.result c.as_bytes-bytes.result.now c.args.text.now
    (length c.args.text.now - length c.loop-found.rest.now) (length c.args.text.now - length c.in-Token.after.now) c.depth_after-depth.ensures.value c.as_bytes-bytes.ensures.value in
    (c.utf8.text, reached_deep _ _ _ _ _ x.0 x.1 _ _ p (omega (arith, same)))

pub loop-found-smaller : goal.loop-found-smaller
loop-found-smaller c =
    let x = c.loop-found.invariant in
    let p = token_at _ _ _ _ _ c.in-Some.ensures c.in-Token.is in
    piece_shortens _ _ x.0 p

pub loop-found-preserved : goal.loop-found-preserved
loop-found-preserved c =
    let x = c.loop-found.invariant in
    let p = token_at _ _ _ _ _ c.in-Some.ensures c.in-Token.is in
    let same = same_depth c.loop-found.depth c.depth_after-depth.result c.as_bytes-bytes.result.now c.args.text.now
    (length c.args.text.now - length c.loop-found.rest.now) (length c.args.text.now - length c.in-Token.after.now) c.depth_after-depth.ensures.value c.as_bytes-bytes.ensures.value in
    (p.utf8, reached_token _ _ _ _ _ x.0 x.1 _ _ p _ _ same c.if-depth-gt-MAX_DEPTH.false c.in-Ok.ensures.items)

pub returns-in-BadCharacter-clause-fault : goal.returns-in-BadCharacter-clause-fault
returns-in-BadCharacter-clause-fault c =
    let x = c.loop-found.invariant in
    (c.utf8.text, reached_bad _ _ _ _ _ x.0 x.1 (subst (IsFront _ _) c.in-BadCharacter.is c.in-Some.ensures))

pub returns-in-OpenComment-clause-fault : goal.returns-in-OpenComment-clause-fault
returns-in-OpenComment-clause-fault c =
    let x = c.loop-found.invariant in
    (c.utf8.text, reached_open _ _ _ _ _ x.0 x.1 (subst (IsFront _ _) c.in-OpenComment.is c.in-Some.ensures))

pub returns-clause-tokens : goal.returns-clause-tokens
returns-clause-tokens c =
    let x = c.loop-found.invariant in
    (reached_end _ _ _ _ _ c.utf8.text c.in_default.ensures x.1).0
