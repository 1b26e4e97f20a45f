use Rattle.std.proofs.Common.{◌≡◌, map, slice_get, Some, refl, sym, ap, ◌∙◌, subst, arith}
use Rattle.std.specs.Prelude.{unwrap_or, [], All}
use Rattle.std.specs.FinMap.{get}
use Rattle.dj_calculus.specs.Tables as calculus
use Rattle.ifj_table.specs.Sorted.{AreRising, IsGap}
use Rattle.ifj_table.specs.Entries.{plain_field}
use Rattle.ifj_table.specs.Held.{IsFieldEntry}
use Rattle.std.proofs.lemmas.List.Elements.{All-weaker}
use Rattle.dj_tree.specs.WellFormed.{IsKnown}
use Rattle.ifj_table.specs.declared.entry.FieldEntry.{FieldEntry}
use Rattle.ifj_table.specs.Tables.{name_text}
use Rattle.ifj_table.proofs.EntryMaps.{got_at, missing_in_gap}
use Rattle.ifj_table.proofs.MemberLemmas.{field_key}
use Rattle.ifj_table.proofs.Inherited.{entry_held, no_member, no_member_at_all, member_here, climbs_past}
use Rattle.ifj_table.proofs.table.Table.find_field.Goals as goal

pub returns-in-None : goal.returns-in-None
returns-in-None c =
    let t = c.args.self.now in
    let text = ap (λ o. unwrap_or o []) c.text-text.ensures in
    rw text (no_member t (λ entry. get entry.fields c.text-text.result.now) (name_text t c.args.class.0) (name_text t c.up.at.0) c.up._turn c.up.invariant.1 c.in-None.ensures.found)

pub search-requires-clause-known : goal.search-requires-clause-known
search-requires-clause-known c =
    let t = c.args.self.now in
    let is = entry_held t (name_text t c.up.at.0) c.in-Some.entry.now c.in-Some.ensures.class in
    subst (All (λ (e : FieldEntry). IsKnown t.names e.spot)) (sym c.as_slice.ensures.value) (All-weaker (IsFieldEntry t.names) (λ (e : FieldEntry). IsKnown t.names e.spot) (λ e h. h.spot) c.in-Some.entry.now.fields.items is.fields)

pub search-requires-clause-rising : goal.search-requires-clause-rising
search-requires-clause-rising c =
    let t = c.args.self.now in
    let is = entry_held t (name_text t c.up.at.0) c.in-Some.entry.now c.in-Some.ensures.class in
    subst (λ es. AreRising (map (field_key t.names) es)) (sym c.as_slice.ensures.value) is.rising_fields

pub returns-in-Ok : goal.returns-in-Ok
returns-in-Ok c =
    let t = c.args.self.now in
    let class = c.in-Some.entry.now in
    let is = entry_held t (name_text t c.up.at.0) class c.in-Some.ensures.class in
    let here = subst (λ es. slice_get (map (field_key t.names) es) c.in-Ok.place ≡ Some c.text-text.result.now) c.as_slice.ensures.value c.in-Ok.ensures in
    let it = got_at (field_key t.names) (plain_field t.names) class.fields.items c.in-Ok.place c.text-text.result.now is.rising_fields here in
    let text = ap (λ o. unwrap_or o []) c.text-text.ensures in
    record {
      known = c.up.invariant.0;
      owner = class;
      is_owner = c.in-Some.ensures.class;
      entry = it.0;
      stands = it.1;
      named = it.2 ∙ sym text;
      nearest = rw text (member_here t (λ entry. get entry.fields c.text-text.result.now) (name_text t c.args.class.0) (name_text t c.up.at.0) c.up._turn c.up.invariant.1 class (plain_field t.names it.0) c.in-Some.ensures.found it.3);
    }

pub up-preserved : goal.up-preserved
up-preserved c =
    let t = c.args.self.now in
    let class = c.in-Some.entry.now in
    let is = entry_held t (name_text t c.up.at.0) class c.in-Some.ensures.class in
    let gap = subst (λ es. IsGap (map (field_key t.names) es) c.text-text.result.now c.in-Err.field-0) c.as_slice.ensures.value c.in-Err.ensures in (
      is.parent,
      climbs_past t (λ entry. get entry.fields c.text-text.result.now) (name_text t c.args.class.0) (name_text t c.up.at.0) c.up._turn c.up.invariant.1 class c.in-Some.ensures.found
          (missing_in_gap (field_key t.names) (plain_field t.names) class.fields.items c.text-text.result.now c.in-Err.field-0 gap),
    )

pub returns : goal.returns
returns c =
    let t = c.args.self.now in
    let text = ap (λ o. unwrap_or o []) c.text-text.ensures in
    rw text (no_member_at_all t (λ entry. get entry.fields c.text-text.result.now) (name_text t c.args.class.0) (name_text t c.up.at.0) c.up._turn c.up.invariant.1 (omega (arith, c.up-test.false, c.len-turn-end.ensures, t.classes.ok.0)))
