use Rattle.std.proofs.Common.{◌≡◌, ℕ, ◌+◌, ◌-◌, ◌/◌, ◌<◌, ◌≤◌, length, map, slice_get, Some, sym, ap, ◌∙◌, arith}
use Rattle.std.proofs.lemmas.List.{length-map}
use Rattle.dj_tree.specs.declared.declarations.Spot.{Spot}
use Rattle.ifj_table.specs.Entries.{text_at}
use Rattle.ifj_table.proofs.Searching.{in_upper_half, in_lower_half, turned, equal_texts, key_of_element, text_of_name}
use Rattle.ifj_table.proofs.keyed.search.Goals as goal

pub halves-preserved-in-Less : goal.halves-preserved-in-Less
halves-preserved-in-Less g c =
    let f = λ (e : g.row.E.Denot). text_at c.args.names.now (g.E.Keyed.key_of e) in
    let it = c.halves.invariant in
    let below : c.halves.low + (c.halves.high - c.halves.low) / 2 < c.halves.high = omega (arith, c.halves-test.true) in
    let here = key_of_element f c.args.entries.now _ c.index-entries-middle.result c.text.result.now (omega (arith, below, it.within, length-map c.args.entries.now f)) c.index-entries-middle.is
    (text_of_name c.args.names.now (g.E.Keyed.key_of c.index-entries-middle.result) c.key.result.name.0 c.text.result.now c.text.ensures (ap (λ (s : Spot). s.name.0) c.key.ensures)) in
    in_upper_half _ _ c.halves.low c.halves.high _ c.text.result.now c.requires.rising it here below (sym c.cmp.ensures ∙ c.in-Less.is)

pub returns-in-Equal : goal.returns-in-Equal
returns-in-Equal g c =
    let f = λ (e : g.row.E.Denot). text_at c.args.names.now (g.E.Keyed.key_of e) in
    let it = c.halves.invariant in
    let below : c.halves.low + (c.halves.high - c.halves.low) / 2 < c.halves.high = omega (arith, c.halves-test.true) in
    let here = key_of_element f c.args.entries.now _ c.index-entries-middle.result c.text.result.now (omega (arith, below, it.within, length-map c.args.entries.now f)) c.index-entries-middle.is
    (text_of_name c.args.names.now (g.E.Keyed.key_of c.index-entries-middle.result) c.key.result.name.0 c.text.result.now c.text.ensures (ap (λ (s : Spot). s.name.0) c.key.ensures)) in
    here ∙ ap Some (equal_texts c.text.result.now c.args.text.now (sym c.cmp.ensures ∙ c.in-Equal.is))

pub halves-preserved : goal.halves-preserved
halves-preserved g c =
    let f = λ (e : g.row.E.Denot). text_at c.args.names.now (g.E.Keyed.key_of e) in
    let it = c.halves.invariant in
    let below : c.halves.low + (c.halves.high - c.halves.low) / 2 < c.halves.high = omega (arith, c.halves-test.true) in
    let above : c.halves.low ≤ c.halves.low + (c.halves.high - c.halves.low) / 2 = omega arith in
    let here = key_of_element f c.args.entries.now _ c.index-entries-middle.result c.text.result.now (omega (arith, below, it.within, length-map c.args.entries.now f)) c.index-entries-middle.is
    (text_of_name c.args.names.now (g.E.Keyed.key_of c.index-entries-middle.result) c.key.result.name.0 c.text.result.now c.text.ensures (ap (λ (s : Spot). s.name.0) c.key.ensures)) in
    in_lower_half _ _ c.halves.low c.halves.high _ c.text.result.now c.requires.rising it here above below (turned c.text.result.now c.args.text.now (sym c.cmp.ensures ∙ c.in-Greater.is))
