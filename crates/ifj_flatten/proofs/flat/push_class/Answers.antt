use Rattle.std.proofs.Common.{◌≡◌, List, [], map, refl, sym, ap, ◌∙◌, subst}
use Rattle.std.specs.Prelude.{unwrap_or}
use Rattle.std.specs.List.{flat_map}
use Rattle.std.specs.FinMap.{insert, from_entries}
use Rattle.std.proofs.lemmas.Bool.{false≢true}
use Rattle.std.proofs.lemmas.Result.{on_ok_weaker}
use Rattle.std.proofs.lemmas.Slice.Eq.{bytes_eq-Decides}
use Rattle.dj_tree.specs.Plain.{plain_spot}
use Rattle.dj_calculus.specs.Subclasses.{object}
use Rattle.dj_calculus.specs.FlatTables.{versions, flat_class}
use Rattle.ifj_table.specs.Changes.{bare_class}
use Rattle.ifj_table.specs.Sorted.{AreRising}
use Rattle.ifj_table.specs.declared.entry.FieldEntry.{FieldEntry}
use Rattle.ifj_table.specs.Entries.{text_at, fields_of, plain_class}
use Rattle.ifj_table.specs.Tables.{plain_table}
use Rattle.ifj_flatten.specs.Changes.{AreApart, names_of}
use Rattle.ifj_flatten.proofs.Flattened.{kept_pairs, kept_versions, bare_there, made_none, class_made, entries_of_methods}
use Rattle.ifj_flatten.proofs.flat.push_class.Goals as goal

pub add_class-requires-clause-declarable : goal.add_class-requires-clause-declarable
add_class-requires-clause-declarable c = λ same. false≢true (sym c.requires.class.declarable ∙ (bytes_eq-Decides _ object).1 same)

pub push_fields-requires-clause-there : goal.push_fields-requires-clause-there
push_fields-requires-clause-there c =
    let class = c.args.class.now in
    let names = c.args.from.now in
    let text = c.text-name.result.now in
    let named : text_at names class.spot ≡ text = ap (λ o. unwrap_or o []) c.text-name.ensures in
    let bare = bare_class class.spot.at (plain_spot names class.parent) in
    let t = plain_table c.args.flat.now.table in
    let added = plain_table c.add_class.new.self.table in
    let is_added = c.in_ok-add_class.ensures ∙ ap (λ k. insert t k bare) named in
    (bare, bare_there t added added text class.spot.at (plain_spot names class.parent) bare.fields is_added, refl)

pub push_methods-requires-clause-may : goal.push_methods-requires-clause-may
push_methods-requires-clause-may c =
    let class = c.args.class.now in
    let names = c.args.from.now in
    let exprs = c.args.exprs.now in
    let text = c.text-name.result.now in
    let named : text_at names class.spot ≡ text = ap (λ o. unwrap_or o []) c.text-name.ensures in
    let bare = bare_class class.spot.at (plain_spot names class.parent) in
    let t = plain_table c.args.flat.now.table in
    let added = plain_table c.add_class.new.self.table in
    let filled = plain_table c.push_fields.new.flat.table in
    let fields = fields_of names c.as_slice.result.now in
    let is_added = c.in_ok-add_class.ensures ∙ ap (λ k. insert t k bare) named in
    record {
      before = filled;
      done = [];
      made = made_none t added filled text class.spot.at (plain_spot names class.parent) fields is_added c.in_ok-push_fields.ensures;
      apart = subst (λ ms. AreApart (names_of (kept_versions names exprs text ms))) (sym c.as_slice-2.ensures.value)
          (subst (λ k. AreApart (names_of (flat_map (versions k) (kept_pairs names exprs k class.methods.items)))) named c.requires.apart);
    }

pub returns : goal.returns
returns c =
    let class = c.args.class.now in
    let names = c.args.from.now in
    let exprs = c.args.exprs.now in
    let text = c.text-name.result.now in
    let named : text_at names class.spot ≡ text = ap (λ o. unwrap_or o []) c.text-name.ensures in
    let bare = bare_class class.spot.at (plain_spot names class.parent) in
    let t = plain_table c.args.flat.now.table in
    let added = plain_table c.add_class.new.self.table in
    let filled = plain_table c.push_fields.new.flat.table in
    let fields = fields_of names c.as_slice.result.now in
    let is_added = c.in_ok-add_class.ensures ∙ ap (λ k. insert t k bare) named in
    let none = made_none t added filled text class.spot.at (plain_spot names class.parent) fields is_added c.in_ok-push_fields.ensures in
    on_ok_weaker c.push_methods.result
    (λ made.
    class_made t added filled text class.spot.at (plain_spot names class.parent) fields is_added c.in_ok-push_fields.ensures _ (plain_table c.push_methods.new.flat.table) made
    ∙ ap (λ fs. insert t text (record { at = class.spot.at; parent = plain_spot names class.parent; fields = fields_of names fs; methods = from_entries (kept_versions names exprs text c.as_slice-2.result.now) })) c.as_slice.ensures.value
    ∙ ap (λ ms. insert t text (record { at = class.spot.at; parent = plain_spot names class.parent; fields = fields_of names class.fields.items; methods = from_entries (kept_versions names exprs text ms) })) c.as_slice-2.ensures.value
    ∙ ap (λ es. insert t text (record { at = class.spot.at; parent = plain_spot names class.parent; fields = fields_of names class.fields.items; methods = from_entries (flat_map (versions text) es) })) (sym (entries_of_methods names exprs class c.requires.class))
    ∙ ap (λ k. insert t k (flat_class (k, plain_class names exprs class)).1) (sym named))
    (c.push_methods.ensures filled [] none)

pub push_fields-requires-clause-rising : goal.push_fields-requires-clause-rising
push_fields-requires-clause-rising c =
    subst (λ (fs : List FieldEntry). AreRising (map (λ f. text_at c.args.from.now f.spot) fs)) (sym c.as_slice.ensures.value) c.requires.class.rising_fields
