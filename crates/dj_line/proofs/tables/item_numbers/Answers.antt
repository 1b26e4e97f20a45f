use Rattle.std.proofs.Common.{get_or}
use Rattle.std.proofs.lemmas.Option.{slice_get-get_or}
use Rattle.dj_line.specs.Numbering.{number_by}
use Rattle.dj_line.proofs.Filling.{pushed_next, no_item}
use Rattle.dj_line.proofs.tables.item_numbers.Goals as goal

pub loop-item-preserved : goal.loop-item-preserved
loop-item-preserved c =
    let items = c.args.items.now in
    let k = c.loop-item.item-index in
    pushed_next (number_by c.args.deltas.now.keys) items k (get_or items k no_item) c.loop-item.numbers.items _ c.number_in.result (slice_get-get_or items k no_item c.loop-item-test.true) c.loop-item.invariant c.number_in.ensures c.in_ok-push.ensures.items
