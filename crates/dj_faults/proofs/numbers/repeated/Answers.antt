use Rattle.std.proofs.Common.{cond, true, sym, ap, ◌∙◌}
use Rattle.std.proofs.lemmas.Option.{slice_get-get_or}
use Rattle.dj_faults.proofs.LeastLemmas.{again_next, met_next}
use Rattle.dj_faults.proofs.numbers.repeated.Goals as goal

pub loop-spot-preserved : goal.loop-spot-preserved
loop-spot-preserved c =
    let here = slice_get-get_or c.args.spots.now c.loop-spot.spot-index _ c.loop-spot-test.true in
    record {
      met = λ n. c.in_ok-again.ensures.met n ∙ ap (cond _ true) (c.loop-spot.invariant.met n) ∙ sym (met_next c.args.spots.now c.loop-spot.spot-index _ n here);
      least = rw (c.earlier-least.ensures, c.in_ok-again.ensures.again, c.loop-spot.invariant.met) (again_next c.args.spots.now c.loop-spot.spot-index _ _ here c.loop-spot.invariant.least);
    }
