use Rattle.std.proofs.lemmas.Option.{slice_get-get_or}
use Rattle.dj_faults.proofs.LeastLemmas.{among_next}
use Rattle.dj_faults.proofs.features.in_items.Goals as goal

pub loop-item-preserved : goal.loop-item-preserved
loop-item-preserved c =
    let here = slice_get-get_or c.args.items.now c.loop-item.item-index _ c.loop-item-test.true in
    rw c.earlier-least.ensures (among_next _ c.args.items.now c.loop-item.item-index _ _ _ here c.loop-item.invariant c.in_ok-here.ensures)
