use Rattle.std.proofs.Common.{refl}
use Rattle.std.proofs.lemmas.Option.{slice_get_read}
use Rattle.dj_faults.proofs.ChainLemmas.{follow_next}
use Rattle.dj_faults.proofs.parts.followers_of.Goals as goal

pub loop-number-preserved : goal.loop-number-preserved
loop-number-preserved c =
    let x = c.index-parts-number.result in
    let there = slice_get_read c.args.parts.now _ c.loop-number.number x refl c.loop-number-test.true c.index-parts-number.is in
    λ n. follow_next c.args.parts.now c.loop-number.number x n _ _ there (c.loop-number.invariant n) (c.in_ok-follow.ensures n)
