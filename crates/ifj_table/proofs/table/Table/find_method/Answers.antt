use Rattle.std.proofs.Common.{◌≡◌, map, slice_get, Some, refl, sym, ap, ◌∙◌, subst, arith}
use Rattle.std.specs.Prelude.{unwrap_or, [], All}
use Rattle.std.specs.FinMap.{get}
use Rattle.dj_calculus.specs.Tables as calculus
use Rattle.ifj_table.specs.Sorted.{AreRising, IsGap}
use Rattle.ifj_table.specs.Entries.{plain_method}
use Rattle.ifj_table.specs.Held.{IsMethodEntry}
use Rattle.std.proofs.lemmas.List.Elements.{All-weaker}
use Rattle.dj_tree.specs.WellFormed.{IsKnown}
use Rattle.ifj_table.specs.declared.entry.MethodEntry.{MethodEntry}
use Rattle.ifj_table.specs.Tables.{name_text}
use Rattle.ifj_table.proofs.EntryMaps.{got_at, missing_in_gap}
use Rattle.ifj_table.proofs.MemberLemmas.{method_key}
use Rattle.ifj_table.proofs.Inherited.{entry_held, no_member, no_member_at_all, member_here, climbs_past}
use Rattle.ifj_table.proofs.table.Table.find_method.Goals as goal

pub returns-in-None : goal.returns-in-None
returns-in-None c =
    let t = c.args.self.now in
    let text = ap (λ o. unwrap_or o []) c.text-text.ensures in
    rw text (no_member t (λ entry. get entry.methods c.text-text.result.now) (name_text t c.args.class.0) (name_text t c.up.at.0) c.up._turn c.up.invariant.1 c.in-None.ensures.found)

pub search-requires-clause-known : goal.search-requires-clause-known
search-requires-clause-known c =
    let t = c.args.self.now in
    let is = entry_held t (name_text t c.up.at.0) c.in-Some.entry.now c.in-Some.ensures.class in
    subst (All (λ (e : MethodEntry). IsKnown t.names e.spot)) (sym c.as_slice.ensures.value) (All-weaker (IsMethodEntry t.names t.exprs) (λ (e : MethodEntry). IsKnown t.names e.spot) (λ e h. h.spot) c.in-Some.entry.now.methods.items is.methods)

pub search-requires-clause-rising : goal.search-requires-clause-rising
search-requires-clause-rising c =
    let t = c.args.self.now in
    let is = entry_held t (name_text t c.up.at.0) c.in-Some.entry.now c.in-Some.ensures.class in
    subst (λ es. AreRising (map (method_key t.names) es)) (sym c.as_slice.ensures.value) is.rising_methods

pub returns-in-Ok : goal.returns-in-Ok
returns-in-Ok c =
    let t = c.args.self.now in
    let class = c.in-Some.entry.now in
    let is = entry_held t (name_text t c.up.at.0) class c.in-Some.ensures.class in
    let here = subst (λ es. slice_get (map (method_key t.names) es) c.in-Ok.place ≡ Some c.text-text.result.now) c.as_slice.ensures.value c.in-Ok.ensures in
    let it = got_at (method_key t.names) (plain_method t.names t.exprs) class.methods.items c.in-Ok.place c.text-text.result.now is.rising_methods here in
    let text = ap (λ o. unwrap_or o []) c.text-text.ensures in
    record {
      known = c.up.invariant.0;
      owner = class;
      is_owner = c.in-Some.ensures.class;
      entry = it.0;
      stands = it.1;
      named = it.2 ∙ sym text;
      nearest = rw text (member_here t (λ entry. get entry.methods c.text-text.result.now) (name_text t c.args.class.0) (name_text t c.up.at.0) c.up._turn c.up.invariant.1 class (plain_method t.names t.exprs it.0) c.in-Some.ensures.found it.3);
    }

pub up-preserved : goal.up-preserved
up-preserved c =
    let t = c.args.self.now in
    let class = c.in-Some.entry.now in
    let is = entry_held t (name_text t c.up.at.0) class c.in-Some.ensures.class in
    let gap = subst (λ es. IsGap (map (method_key t.names) es) c.text-text.result.now c.in-Err.field-0) c.as_slice.ensures.value c.in-Err.ensures in (
      is.parent,
      climbs_past t (λ entry. get entry.methods c.text-text.result.now) (name_text t c.args.class.0) (name_text t c.up.at.0) c.up._turn c.up.invariant.1 class c.in-Some.ensures.found
          (missing_in_gap (method_key t.names) (plain_method t.names t.exprs) class.methods.items c.text-text.result.now c.in-Err.field-0 gap),
    )

pub returns : goal.returns
returns c =
    let t = c.args.self.now in
    let text = ap (λ o. unwrap_or o []) c.text-text.ensures in
    rw text (no_member_at_all t (λ entry. get entry.methods c.text-text.result.now) (name_text t c.args.class.0) (name_text t c.up.at.0) c.up._turn c.up.invariant.1 (omega (arith, c.up-test.false, c.len-turn-end.ensures, t.classes.ok.0)))
