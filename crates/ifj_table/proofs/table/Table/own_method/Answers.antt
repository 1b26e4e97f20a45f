use Rattle.std.proofs.Common.{◌≡◌, map, slice_get, Some, refl, sym, ap, ◌∙◌, subst, arith}
use Rattle.std.specs.Prelude.{All}
use Rattle.std.specs.Option.{option_and_then}
use Rattle.std.specs.FinMap.{get}
use Rattle.std.proofs.lemmas.List.Elements.{All-weaker}
use Rattle.dj_tree.specs.WellFormed.{IsKnown}
use Rattle.ifj_table.specs.declared.entry.MethodEntry.{MethodEntry}
use Rattle.ifj_table.specs.Sorted.{AreRising, IsGap}
use Rattle.ifj_table.specs.Entries.{plain_class, plain_method}
use Rattle.ifj_table.specs.Held.{IsMethodEntry}
use Rattle.ifj_table.proofs.EntryMaps.{got_at, missing_in_gap}
use Rattle.ifj_table.proofs.TableLemmas.{place_within, element_is, all_at}
use Rattle.ifj_table.proofs.MemberLemmas.{behind, method_key}
use Rattle.ifj_table.proofs.Inherited.{entry_held}
use Rattle.ifj_table.proofs.table.Table.own_method.Goals as goal

pub returns-in-None-clause-found : goal.returns-in-None-clause-found
returns-in-None-clause-found c = ap (option_and_then (λ e. get e.methods c.args.method.now)) c.in-None.ensures.found

pub search-requires-clause-known : goal.search-requires-clause-known
search-requires-clause-known c =
    let t = c.args.self.now in
    let is = entry_held t c.args.class.now c.in-Some.entry.now c.in-Some.ensures.class in
    subst (All (λ (e : MethodEntry). IsKnown t.names e.spot)) (sym c.as_slice.ensures.value) (All-weaker (IsMethodEntry t.names t.exprs) (λ (e : MethodEntry). IsKnown t.names e.spot) (λ e h. h.spot) c.in-Some.entry.now.methods.items is.methods)

pub search-requires-clause-rising : goal.search-requires-clause-rising
search-requires-clause-rising c =
    let t = c.args.self.now in
    let is = entry_held t c.args.class.now c.in-Some.entry.now c.in-Some.ensures.class in
    subst (λ es. AreRising (map (method_key t.names) es)) (sym c.as_slice.ensures.value) is.rising_methods

pub index-requires : goal.index-requires
index-requires c =
    let t = c.args.self.now in
    let class = c.in-Some.entry.now in
    let here = subst (λ es. slice_get (map (method_key t.names) es) c.in-Ok.at ≡ Some c.args.method.now) c.as_slice.ensures.value c.in-Ok.ensures in
    omega (arith, place_within (method_key t.names) class.methods.items c.in-Ok.at c.args.method.now here, class.methods.ok.0)

pub returns-in-Ok-clause-found : goal.returns-in-Ok-clause-found
returns-in-Ok-clause-found c =
    let t = c.args.self.now in
    let class = c.in-Some.entry.now in
    let is = entry_held t c.args.class.now class c.in-Some.ensures.class in
    let here = subst (λ es. slice_get (map (method_key t.names) es) c.in-Ok.at ≡ Some c.args.method.now) c.as_slice.ensures.value c.in-Ok.ensures in
    let it = got_at (method_key t.names) (plain_method t.names t.exprs) class.methods.items c.in-Ok.at c.args.method.now is.rising_methods here in
    let stands = element_is class.methods.items c.in-Ok.at c.index.result.now (place_within (method_key t.names) class.methods.items c.in-Ok.at c.args.method.now here) c.index.ensures in
    let same : it.0 ≡ c.index.result.now = cc in
    behind (λ e. get e.methods c.args.method.now) _ (plain_class t.names t.exprs class) c.in-Some.ensures.found ∙ it.3 ∙ ap (λ (e : MethodEntry). Some (plain_method t.names t.exprs e)) same

pub returns-in-Ok-clause-held : goal.returns-in-Ok-clause-held
returns-in-Ok-clause-held c =
    let t = c.args.self.now in
    let class = c.in-Some.entry.now in
    let is = entry_held t c.args.class.now class c.in-Some.ensures.class in
    let here = subst (λ es. slice_get (map (method_key t.names) es) c.in-Ok.at ≡ Some c.args.method.now) c.as_slice.ensures.value c.in-Ok.ensures in
    let stands = element_is class.methods.items c.in-Ok.at c.index.result.now (place_within (method_key t.names) class.methods.items c.in-Ok.at c.args.method.now here) c.index.ensures in
    all_at (IsMethodEntry t.names t.exprs) class.methods.items c.in-Ok.at c.index.result.now is.methods stands

pub returns-in-Err-clause-found : goal.returns-in-Err-clause-found
returns-in-Err-clause-found c =
    let t = c.args.self.now in
    let class = c.in-Some.entry.now in
    let gap = subst (λ es. IsGap (map (method_key t.names) es) c.args.method.now c.in-Err.field-0) c.as_slice.ensures.value c.in-Err.ensures in
    behind (λ e. get e.methods c.args.method.now) _ (plain_class t.names t.exprs class) c.in-Some.ensures.found ∙ missing_in_gap (method_key t.names) (plain_method t.names t.exprs) class.methods.items c.args.method.now c.in-Err.field-0 gap
