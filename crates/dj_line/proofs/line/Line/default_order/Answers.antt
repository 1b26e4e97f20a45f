use Rattle.std.proofs.Common.{◌∙◌, ◌<◌, ◌≤◌, length, filter, ap, arith}
use Rattle.std.specs.List.{flat_map}
use Rattle.std.proofs.lemmas.List.{length-map, take_all}
use Rattle.dj_line.specs.Lines.{plain_line}
use Rattle.dj_line.specs.Placing.{numbers_along}
use Rattle.dj_line.specs.Orders.{is_active}
use Rattle.dj_line.proofs.AcceptedLines.{numbers_below}
use Rattle.dj_line.proofs.ActiveOrders.{flat_next, default_is, default_allowed, default_below}
use Rattle.dj_line.proofs.PartItems.{part_items}
use Rattle.dj_line.proofs.line.Line.default_order.Goals as goal

pub active-requires-clause-below : goal.active-requires-clause-below
active-requires-clause-below c =
    let line = c.args.self.now in
    let low : c.loop-part.part < length line.items.items = omega (arith, c.len-part-end.ensures, c.loop-part-test.true) in
    numbers_below (plain_line line) line.accepted c.loop-part.part c.as_slice.result.now (part_items line c.loop-part.part c.index.result.now c.as_slice.result.now low c.index.ensures c.as_slice.ensures.value)

pub loop-part-preserved : goal.loop-part-preserved
loop-part-preserved c =
    let line = c.args.self.now in
    let low : c.loop-part.part < length line.items.items = omega (arith, c.len-part-end.ensures, c.loop-part-test.true) in
    flat_next (filter (is_active (plain_line line) c.args.config.now.chosen.items)) (numbers_along (plain_line line)) c.loop-part.deltas.items _ c.deref.result.now c.loop-part.part c.as_slice.result.now
    (part_items line c.loop-part.part c.index.result.now c.as_slice.result.now low c.index.ensures c.as_slice.ensures.value) c.loop-part.invariant (c.deref.ensures.value ∙ c.in_ok-active.ensures) c.in_ok-extend_from_slice.ensures.items

pub returns : goal.returns
returns c =
    let line = c.args.self.now in
    let past : length (numbers_along (plain_line line)) ≤ c.loop-part.part = omega (arith, c.len-part-end.ensures, c.loop-part-test.false, ap length line.tables.items_are, length-map line.items.items (λ v. v.items)) in
    let all = c.loop-part.invariant ∙ ap (flat_map (filter (is_active (plain_line line) c.args.config.now.chosen.items))) (take_all c.loop-part.part (numbers_along (plain_line line)) past) in
    record {
      order = default_is (plain_line line) line.accepted c.args.config.now.chosen.items c.loop-part.deltas.items all;
      allowed = default_allowed (plain_line line) line.accepted c.args.config.now.chosen.items c.loop-part.deltas.items all;
      below = default_below (plain_line line) line.accepted c.args.config.now.chosen.items c.loop-part.deltas.items all;
    }
