use Rattle.std.proofs.lemmas.Option.{slice_get-get_or}
use Rattle.dj_faults.specs.Numbers.{Unmet}
use Rattle.dj_faults.proofs.LeastLemmas.{among_next, least_untest}
use Rattle.dj_faults.proofs.numbers.unknown.Goals as goal

pub loop-spot-preserved : goal.loop-spot-preserved
loop-spot-preserved c =
    let here = slice_get-get_or c.args.spots.now c.loop-spot.spot-index _ c.loop-spot-test.true in
    rw (c.earlier-least.ensures, c.unmet.ensures, c.in_ok-met.ensures)
    (among_next (Unmet c.args.others.now) c.args.spots.now c.loop-spot.spot-index _ _ _ here c.loop-spot.invariant (least_untest _ _))
