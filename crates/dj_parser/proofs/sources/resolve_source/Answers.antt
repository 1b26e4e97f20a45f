use Rattle.std.proofs.Common.{[]}
use Rattle.dj_declarations.specs.View.{spot_at, part_view, delta_view}
use Rattle.dj_tree.specs.Plain.{plain_spot, plain_part, plain_delta}
use Rattle.dj_tree.specs.WellFormed.{IsKnown, IsPart, IsDelta}
use Rattle.dj_parser.specs.Said.{said_spot, said_part, said_delta}
use Rattle.dj_parser.proofs.Growing.{can_start, can_first, can_then, grew_not, grew_then}
use Rattle.dj_parser.proofs.Loops.{can_each, grew_each, stand_each}
use Rattle.dj_parser.proofs.Assembling.{source_stands}
use Rattle.dj_parser.proofs.sources.resolve_source.Goals as goal

pub resolve_spot-requires : goal.resolve_spot-requires
resolve_spot-requires c = can_first _ (can_start c.new.ensures c.new-2.ensures c.new-3.ensures c.requires.texts c.requires.room)

pub resolve_each-requires : goal.resolve_each-requires
resolve_each-requires c =
    let can = can_start c.new.ensures c.new-2.ensures c.new-3.ensures c.requires.texts c.requires.room in
    can_each said_spot (spot_at c.args.bytes.now) c.args.raw.now.features.items c.as_slice.result.now c.as_slice.ensures.value (can_first _ (can_then _ can c.in_ok-title.ensures.grew))

pub resolve_formula-requires : goal.resolve_formula-requires
resolve_formula-requires c =
    let can = can_start c.new.ensures c.new-2.ensures c.new-3.ensures c.requires.texts c.requires.room in
    let features = grew_each said_spot (spot_at c.args.bytes.now) c.args.raw.now.features.items c.as_slice.result.now c.as_slice.ensures.value c.in_ok-features.ensures.grew in
    can_first _ (can_then _ (can_then _ can c.in_ok-title.ensures.grew) features)

pub resolve_each-requires-2 : goal.resolve_each-requires-2
resolve_each-requires-2 c =
    let can = can_start c.new.ensures c.new-2.ensures c.new-3.ensures c.requires.texts c.requires.room in
    let features = grew_each said_spot (spot_at c.args.bytes.now) c.args.raw.now.features.items c.as_slice.result.now c.as_slice.ensures.value c.in_ok-features.ensures.grew in
    can_each said_part (part_view c.args.bytes.now) c.args.raw.now.parts.items c.as_slice-2.result.now c.as_slice-2.ensures.value
    (can_first _ (can_then _ (can_then _ (can_then _ can c.in_ok-title.ensures.grew) features) c.in_ok-valid.ensures.grew))

pub resolve_each-requires-3 : goal.resolve_each-requires-3
resolve_each-requires-3 c =
    let can = can_start c.new.ensures c.new-2.ensures c.new-3.ensures c.requires.texts c.requires.room in
    let features = grew_each said_spot (spot_at c.args.bytes.now) c.args.raw.now.features.items c.as_slice.result.now c.as_slice.ensures.value c.in_ok-features.ensures.grew in
    let parts = grew_each said_part (part_view c.args.bytes.now) c.args.raw.now.parts.items c.as_slice-2.result.now c.as_slice-2.ensures.value c.in_ok-parts.ensures.grew in
    can_each said_delta (delta_view c.args.bytes.now) c.args.raw.now.deltas.items c.as_slice-3.result.now c.as_slice-3.ensures.value
    (can_then _ (can_then _ (can_then _ (can_then _ can c.in_ok-title.ensures.grew) features) c.in_ok-valid.ensures.grew) parts)

pub returns : goal.returns
returns c =
    let t = c.resolve_each-3.new.tables in
    let known = c.in_ok-deltas.ensures.grew.known in
    let parts = c.in_ok-deltas.ensures.grew in
    let valid = grew_then c.in_ok-parts.ensures.grew parts in
    let features = grew_then c.in_ok-valid.ensures.grew valid in
    let title = grew_then c.in_ok-features.ensures.grew features in
    let is =
    source_stands t known (c.in_ok-title.ensures.stands t _ title)
    (stand_each (plain_spot t.names) (IsKnown t.names) (spot_at c.args.bytes.now) c.args.raw.now.features.items c.as_slice.result.now c.in_ok-features.features.items c.from_vec.result
    c.as_slice.ensures.value c.from_vec.ensures (c.in_ok-features.ensures.stand t _ features))
    (c.in_ok-valid.ensures.stands t _ valid)
    (stand_each (plain_part t.names t.formulas) (IsPart t.names t.formulas) (part_view c.args.bytes.now) c.args.raw.now.parts.items c.as_slice-2.result.now c.in_ok-parts.parts.items c.from_vec-2.result
    c.as_slice-2.ensures.value c.from_vec-2.ensures (c.in_ok-parts.ensures.stand t _ parts))
    (stand_each (plain_delta t.names t.exprs) (IsDelta t.names t.exprs) (delta_view c.args.bytes.now) c.args.raw.now.deltas.items c.as_slice-3.result.now c.in_ok-deltas.deltas.items c.from_vec-3.result
    c.as_slice-3.ensures.value c.from_vec-3.ensures (c.in_ok-deltas.ensures.stand t [] (grew_not known))) in
    record { stands = is.same; well_formed = is.well }
