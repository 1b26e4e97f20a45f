use Rattle.std.proofs.Common.{◌≡◌, map, slice_get, Some, refl, sym, ap, ◌∙◌, subst, arith}
use Rattle.std.specs.Prelude.{All}
use Rattle.std.specs.Option.{option_and_then}
use Rattle.std.specs.FinMap.{get}
use Rattle.std.proofs.lemmas.List.Elements.{All-weaker}
use Rattle.dj_tree.specs.WellFormed.{IsKnown}
use Rattle.ifj_table.specs.declared.entry.FieldEntry.{FieldEntry}
use Rattle.ifj_table.specs.Sorted.{AreRising, IsGap}
use Rattle.ifj_table.specs.Entries.{plain_class, plain_field}
use Rattle.ifj_table.specs.Held.{IsFieldEntry}
use Rattle.ifj_table.proofs.EntryMaps.{got_at, missing_in_gap}
use Rattle.ifj_table.proofs.TableLemmas.{place_within, element_is}
use Rattle.ifj_table.proofs.MemberLemmas.{behind, field_key}
use Rattle.ifj_table.proofs.Inherited.{entry_held}
use Rattle.ifj_table.proofs.table.Table.own_field.Goals as goal

pub returns-in-None : goal.returns-in-None
returns-in-None c = ap (option_and_then (λ e. get e.fields c.args.field.now)) c.in-None.ensures.found

pub search-requires-clause-known : goal.search-requires-clause-known
search-requires-clause-known c =
    let t = c.args.self.now in
    let is = entry_held t c.args.class.now c.in-Some.entry.now c.in-Some.ensures.class in
    subst (All (λ (e : FieldEntry). IsKnown t.names e.spot)) (sym c.as_slice.ensures.value) (All-weaker (IsFieldEntry t.names) (λ (e : FieldEntry). IsKnown t.names e.spot) (λ e h. h.spot) c.in-Some.entry.now.fields.items is.fields)

pub search-requires-clause-rising : goal.search-requires-clause-rising
search-requires-clause-rising c =
    let t = c.args.self.now in
    let is = entry_held t c.args.class.now c.in-Some.entry.now c.in-Some.ensures.class in
    subst (λ es. AreRising (map (field_key t.names) es)) (sym c.as_slice.ensures.value) is.rising_fields

pub index-requires : goal.index-requires
index-requires c =
    let t = c.args.self.now in
    let class = c.in-Some.entry.now in
    let here = subst (λ es. slice_get (map (field_key t.names) es) c.in-Ok.at ≡ Some c.args.field.now) c.as_slice.ensures.value c.in-Ok.ensures in
    omega (arith, place_within (field_key t.names) class.fields.items c.in-Ok.at c.args.field.now here, class.fields.ok.0)

pub returns-in-Ok : goal.returns-in-Ok
returns-in-Ok c =
    let t = c.args.self.now in
    let class = c.in-Some.entry.now in
    let is = entry_held t c.args.class.now class c.in-Some.ensures.class in
    let here = subst (λ es. slice_get (map (field_key t.names) es) c.in-Ok.at ≡ Some c.args.field.now) c.as_slice.ensures.value c.in-Ok.ensures in
    let it = got_at (field_key t.names) (plain_field t.names) class.fields.items c.in-Ok.at c.args.field.now is.rising_fields here in
    let stands = element_is class.fields.items c.in-Ok.at c.index.result.now (place_within (field_key t.names) class.fields.items c.in-Ok.at c.args.field.now here) c.index.ensures in
    let same : it.0 ≡ c.index.result.now = cc in
    behind (λ e. get e.fields c.args.field.now) _ (plain_class t.names t.exprs class) c.in-Some.ensures.found ∙ it.3 ∙ ap (λ (e : FieldEntry). Some (plain_field t.names e)) same

pub returns-in-Err : goal.returns-in-Err
returns-in-Err c =
    let t = c.args.self.now in
    let class = c.in-Some.entry.now in
    let gap = subst (λ es. IsGap (map (field_key t.names) es) c.args.field.now c.in-Err.field-0) c.as_slice.ensures.value c.in-Err.ensures in
    behind (λ e. get e.fields c.args.field.now) _ (plain_class t.names t.exprs class) c.in-Some.ensures.found ∙ missing_in_gap (field_key t.names) (plain_field t.names) class.fields.items c.args.field.now c.in-Err.field-0 gap
