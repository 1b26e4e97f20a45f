-- The classes of a flat table, one after another.
use Rattle.std.proofs.Common.{◌≡◌, inl, inr, ℕ, ◌+◌, List, [], ◌∷◌, ◌++◌, map, take, drop, length, slice_get, Some, None, Contains, refl, sym, ap, ◌∙◌, subst, append_assoc, arith}
use Rattle.std.specs.List.{flat_map}
use Rattle.std.specs.FinMap.{get, insert, entries, from_entries, find, get-from_entries, from_entries_push}
use Rattle.std.proofs.lemmas.List.{append-nil, length-map, map-append}
use Rattle.std.proofs.lemmas.Grind.{flat_map-append}
use Rattle.dj_names.specs.Texts.{Text}
use Rattle.dj_tree.specs.Trees.{Spot}
use Rattle.dj_tree.specs.declared.expression.ExprNode.{ExprNode}
use Rattle.dj_calculus.specs.Maps.{TextMap, text_cmp}
use Rattle.dj_calculus.specs.Tables as calculus
use Rattle.dj_calculus.specs.FlatTables.{versions, flat_class, flat, IsFlattenable}
use Rattle.dj_calculus.proofs.MapLemmas.{text_total, text_antisymmetric, reinserted, entry_found}
use Rattle.dj_calculus.proofs.Members.{mapped_from}
use Rattle.dj_calculus_laws.proofs.FlatTyping.{class_plain, method_plain}
use Rattle.ifj_table.specs.Changes.{changed_at, bare_class}
use Rattle.ifj_table.specs.Entries.{text_at, methods_of, plain_body, plain_method, plain_class, classes_of}
use Rattle.ifj_table.specs.Held.{IsClassEntry, AreClasses}
use Rattle.ifj_table.specs.Sorted.{AreRising, pairs_of, map_of}
use Rattle.ifj_table.specs.declared.entry.MethodEntry.{MethodEntry}
use Rattle.ifj_table.specs.declared.entry.ClassEntry.{ClassEntry}
use Rattle.ifj_table.proofs.EntryMaps.{got}
use Rattle.ifj_table.proofs.TableLemmas.{all_at}
use Rattle.ifj_table.proofs.TableChanges.{changed_there, unchanged}
use Rattle.ifj_flatten.specs.Changes.{with_fields, with_methods, AreApart, names_of, HasMade, MayFollow}
use Rattle.ifj_flatten.proofs.VersionsApart.{rising_apart, front_apart, versions_apart, AreNameable, AreFew}
use Rattle.ifj_flatten.proofs.Building.{get_itself, split_at, names_are, entries_rising, rising_new, rising_more}

-- ---- methods of a class

module _ (names : List Text) (exprs : List ExprNode) (class : Text) where
  abbrev pub kept_pairs : List MethodEntry → List (Text × calculus.MethodEntry)
  kept_pairs ms = pairs_of (λ m. text_at names m.spot) (plain_method names exprs) ms

  abbrev pub kept_versions : List MethodEntry → List (Text × calculus.MethodEntry)
  kept_versions ms = flat_map (versions class) (kept_pairs ms)

  abbrev pair_of : MethodEntry → Text × calculus.MethodEntry
  pair_of m = (text_at names m.spot, plain_method names exprs m)

  versions_append : (ms ns : List MethodEntry) → kept_versions (ms ++ ns) ≡ kept_versions ms ++ kept_versions ns
  versions_append ms ns = ap (flat_map (versions class)) (map-append pair_of ms ns) ∙ flat_map-append (versions class) (kept_pairs ms) (kept_pairs ns)

  versions_one : (m : MethodEntry) → kept_versions (m ∷ []) ≡ versions class (pair_of m)
  versions_one m = append-nil (versions class (pair_of m))

  module _ (methods : List MethodEntry) (at : ℕ) (m : MethodEntry) (here : slice_get methods at ≡ Some m) where
    pub versions_more : (done : List (Text × calculus.MethodEntry)) → (done ++ kept_versions (take at methods)) ++ versions class (pair_of m) ≡ done ++ kept_versions (take (at + 1) methods)
    versions_more done =
        append_assoc done (kept_versions (take at methods)) (versions class (pair_of m))
        ∙ ap (λ es. done ++ es)
        (sym (ap kept_versions (split_at methods at m here).more ∙ versions_append (take at methods) (m ∷ []) ∙ ap (λ es. kept_versions (take at methods) ++ es) (versions_one m)))

    versions_split : (done : List (Text × calculus.MethodEntry)) → done ++ kept_versions methods ≡ ((done ++ kept_versions (take at methods)) ++ versions class (pair_of m)) ++ kept_versions (drop (at + 1) methods)
    versions_split done =
        let front = kept_versions (take at methods) in
        let rest = kept_versions (drop (at + 1) methods) in
        let whole : kept_versions methods ≡ front ++ (versions class (pair_of m) ++ rest) =
        ap kept_versions (split_at methods at m here).whole ∙ versions_append (take at methods) (m ∷ drop (at + 1) methods)
        ∙ ap (λ es. front ++ es) (versions_append (m ∷ []) (drop (at + 1) methods) ∙ ap (λ es. es ++ rest) (versions_one m)) in
        ap (λ es. done ++ es) whole ∙ sym (append_assoc done front (versions class (pair_of m) ++ rest)) ∙ sym (append_assoc (done ++ front) (versions class (pair_of m)) rest)

    pub methods_follow : (first now : calculus.Table) → MayFollow (kept_versions methods) class first
        → ((before : calculus.Table) (done : List (Text × calculus.MethodEntry)) → HasMade before class done first → HasMade before class (done ++ kept_versions (take at methods)) now)
        → MayFollow (versions class (pair_of m)) class now
    methods_follow first now may so_far = record {
      before = may.before;
      done = may.done ++ kept_versions (take at methods);
      made = so_far may.before may.done may.made;
      apart = front_apart ((may.done ++ kept_versions (take at methods)) ++ versions class (pair_of m)) (kept_versions (drop (at + 1) methods))
          (subst (λ es. AreApart (names_of es)) (versions_split may.done) may.apart);
    }

-- ---- a class

-- a class that is put in without members and is then given its fields
module _ (t added filled : calculus.Table) (class : Text) (at : ℕ) (parent : Spot) (fields : TextMap calculus.FieldEntry) (is_added : added ≡ insert t class (bare_class at parent)) where
  pub bare_there : get added class ≡ Some (bare_class at parent)
  bare_there = ap (λ u. get u class) is_added ∙ get_itself t class (bare_class at parent)

  module _ (is_filled : filled ≡ changed_at added class (with_fields fields)) where
    with_its_fields : calculus.ClassEntry
    with_its_fields = with_fields fields (bare_class at parent)

    filled_is : filled ≡ insert t class (with_fields fields (bare_class at parent))
    filled_is =
        is_filled ∙ changed_there added class (bare_class at parent) (with_fields fields) bare_there ∙ ap (λ u. insert u class (with_fields fields (bare_class at parent))) is_added
        ∙ reinserted calculus.ClassEntry t class (bare_class at parent) (with_fields fields (bare_class at parent))

    filled_there : get filled class ≡ Some (with_fields fields (bare_class at parent))
    filled_there = ap (λ u. get u class) filled_is ∙ get_itself t class (with_fields fields (bare_class at parent))

    -- no methods are made yet
    pub made_none : HasMade filled class [] filled
    made_none = record {
      entry = with_fields fields (bare_class at parent);
      there = filled_there;
      is = sym (unchanged filled class (with_fields fields (bare_class at parent)) filled_there) ∙ changed_there filled class (with_fields fields (bare_class at parent)) (λ c. c) filled_there
          ∙ sym (changed_there filled class (with_fields fields (bare_class at parent)) (with_methods (from_entries [])) filled_there);
    }

    pub class_made : (done : List (Text × calculus.MethodEntry)) (new : calculus.Table) → HasMade filled class done new
        → new ≡ insert t class (record { at = at; parent = parent; fields = fields; methods = from_entries done })
    class_made done new made =
        let entry : calculus.ClassEntry = record { at = at; parent = parent; fields = fields; methods = from_entries done } in
        made.is ∙ changed_there filled class (with_fields fields (bare_class at parent)) (with_methods (from_entries done)) filled_there ∙ ap (λ u. insert u class entry) filled_is
        ∙ reinserted calculus.ClassEntry t class (with_fields fields (bare_class at parent)) entry

-- ---- classes

module _ (names : List Text) (exprs : List ExprNode) where
  abbrev pub class_key : ClassEntry → Text
  class_key c = text_at names c.spot

  abbrev pub flat_read : ClassEntry → calculus.ClassEntry
  flat_read c = (flat_class (class_key c, plain_class names exprs c)).1

  -- the versions of its methods, by the entries of their list
  pub entries_of_methods : (c : ClassEntry) → IsClassEntry names exprs c → entries (methods_of names exprs c.methods.items) ≡ kept_pairs names exprs (class_key c) c.methods.items
  entries_of_methods c is =
      let pairs = kept_pairs names exprs (class_key c) c.methods.items in
      entries_rising pairs (subst AreRising (sym (names_are (λ (m : MethodEntry). text_at names m.spot) (plain_method names exprs) c.methods.items)) is.rising_methods)

  flat_pairs : (classes : List ClassEntry) → map flat_class (pairs_of class_key (plain_class names exprs) classes) ≡ pairs_of class_key flat_read classes
  flat_pairs [] = refl
  flat_pairs (c ∷ classes) = ap (λ es. (class_key c, flat_read c) ∷ es) (flat_pairs classes)

  module _ (classes : List ClassEntry) (held : AreClasses names exprs classes) where
    pub flat_is : map_of class_key flat_read classes ≡ flat (classes_of names exprs classes)
    flat_is =
        let pairs = pairs_of class_key (plain_class names exprs) classes in
        ap from_entries (sym (flat_pairs classes)
        ∙ ap (map flat_class) (sym (entries_rising pairs (subst AreRising (sym (names_are class_key (plain_class names exprs) classes)) held.rising))))

    module _ (at : ℕ) (c : ClassEntry) (here : slice_get classes at ≡ Some c) where
      none_before : find text_cmp (class_key c) (pairs_of class_key flat_read (take at classes)) ≡ None
      none_before = rising_new class_key flat_read classes at c held.rising here

      pub class_new : (now : calculus.Table) → now ≡ map_of class_key flat_read (take at classes) → get now (class_key c) ≡ None
      class_new now is = ap (λ t. get t (class_key c)) is ∙ get-from_entries text_total _ (class_key c) ∙ none_before

      pub class_more : (now new : calculus.Table) → now ≡ map_of class_key flat_read (take at classes) → new ≡ insert now (class_key c) (flat_read c) → new ≡ map_of class_key flat_read (take (at + 1) classes)
      class_more now new is added =
          added ∙ ap (λ t. insert t (class_key c) (flat_read c)) is
          ∙ sym (ap from_entries (rising_more class_key flat_read classes at c here)
          ∙ from_entries_push text_total text_antisymmetric (pairs_of class_key flat_read (take at classes)) (class_key c) (flat_read c) none_before)

      pub class_is : IsClassEntry names exprs c
      class_is = all_at (IsClassEntry names exprs) classes at c held.each here

      module _ (flattenable : IsFlattenable (classes_of names exprs classes)) where
        pairs_are : List (Text × calculus.MethodEntry)
        pairs_are = kept_pairs names exprs (class_key c) c.methods.items

        nameable : IsFlattenable (classes_of names exprs classes) → AreNameable (class_key c) (kept_pairs names exprs (class_key c) c.methods.items)
        nameable (inl has) =
            let there = got class_key (plain_class names exprs) classes at c held.rising here in
            inl (
              class_plain (classes_of names exprs classes) has.1 (class_key c) (plain_class names exprs c) there,
              λ e within. method_plain (classes_of names exprs classes) has.1 (class_key c) (plain_class names exprs c) there e.0 e.1
                  (entry_found (methods_of names exprs c.methods.items) e.0 e.1 (subst (λ es. Contains es e) (sym (entries_of_methods c class_is)) within)),
            )
        nameable (inr one) =
            let there = got class_key (plain_class names exprs) classes at c held.rising here in
            inr (λ e within. ap length (one (class_key c) e.0 (plain_class names exprs c) e.1 there
            (entry_found (methods_of names exprs c.methods.items) e.0 e.1 (subst (λ es. Contains es e) (sym (entries_of_methods c class_is)) within))).1)

        few : AreFew (kept_pairs names exprs (class_key c) c.methods.items)
        few e within =
            let of = mapped_from (λ (m : MethodEntry). (text_at names m.spot, plain_method names exprs m)) c.methods.items e within in
            let m = of.0 in
            let many = length-map m.bodies.items (plain_body names exprs) in
            let same = ap (λ (d : Text × calculus.MethodEntry). length d.1.bodies) of.2 in
            omega (arith, many, same, m.bodies.ok.0, m.bodies.small)

        pub class_apart : AreApart (names_of (kept_versions names exprs (class_key c) c.methods.items))
        class_apart =
            versions_apart (class_key c) (kept_pairs names exprs (class_key c) c.methods.items)
            (subst AreApart (sym (names_are (λ (m : MethodEntry). text_at names m.spot) (plain_method names exprs) c.methods.items)) (rising_apart _ class_is.rising_methods))
            (nameable flattenable) few
