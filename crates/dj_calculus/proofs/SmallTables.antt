-- Tests of small tables: which rules of layers 3 and 4 they don't break.
use Rattle.std.proofs.Common.{◌≡◌, ◌⊎◌, inl, inr, ℕ, zero, suc, ◌<◌, Bool, true, false, not, ◌&&◌, ◌||◌, List, map, length, Option, Some, None, is_some, IsSome, Contains, refl, sym, ap, ◌∙◌, subst, arith}
use Rattle.std.proofs.lemmas.Bool.{false≢true}
use Rattle.std.proofs.lemmas.Slice.Eq.{bytes_eq-Decides}
use Rattle.std.specs.List.{list_any, list_all}
use Rattle.std.specs.Option.{option_map_or}
use Rattle.std.specs.Ordering.{eq_by_cmp}
use Rattle.std.specs.Str.{bytes_eq}
use Rattle.std.specs.FinMap.{get, find, get-from_entries}
use Rattle.std.specs.FinMap.Entries.{is_some-find}
use Rattle.dj_names.specs.Texts.{Text}
use Rattle.dj_tree.specs.Trees.{Spot, Expr, Field, Method, Class}
use Rattle.dj_calculus.specs.Maps.{text_cmp}
use Rattle.dj_calculus.specs.Tables.{FieldEntry, MethodEntry, ClassEntry, Table}
use Rattle.dj_calculus.specs.Entries.{field_entry, method_entry, superclass_of, class_entry}
use Rattle.dj_calculus.specs.Subclasses.{object, Exists, Steps, stay, up, Above, class_kind, Below, same, below_object, above, Nearest, own, inherited}
use Rattle.dj_calculus.specs.Typing.{Home, types_in}
use Rattle.dj_calculus.specs.Instances.{layer}
use Rattle.dj_calculus.specs.BodyRules.{NodeRule, unknown_variable}
use Rattle.dj_calculus.specs.TableRules.{IsEndless, TableRule, unknown_superclass, circular_superclasses, unknown_field_type, unknown_method_type, hidden_field, override_differs, of_node, returned_type}
use Rattle.dj_calculus.specs.JavaFiles.{table_of}
use Rattle.dj_calculus.proofs.MapLemmas.{text_total, found_in_entries}
use Rattle.dj_calculus.proofs.Members.{either, first_or_other, mapped_from, not_both}
use Rattle.dj_calculus.proofs.Chains.{none_or_value}
use Rattle.dj_calculus.proofs.ConflictLemmas.{passes}
use Rattle.dj_calculus.proofs.ExpressionForms.{both_of}

or_true : (a b : Bool) → a || b ≡ true → (a ≡ true) ⊎ (b ≡ true)
or_true true b e = inl refl
or_true false b e = inr e

or_false : (a b : Bool) → a || b ≡ false → (a ≡ false) × (b ≡ false)
or_false true b e = absurd cc
or_false false b e = (refl, e)

not_true : (b : Bool) → not b ≡ true → b ≡ true → ⊥
not_true true e p = false≢true e
not_true false e p = false≢true p

module _ (classes : List Class) where
  abbrev pub table : Table
  table = table_of classes

  abbrev pub listed : List (Text × ClassEntry)
  listed = map (λ c. (c.name.text, class_entry c)) classes

  -- ---- look-ups

  pub found : (x : Text) (e : ClassEntry) → find text_cmp x listed ≡ Some e → get table x ≡ Some e
  found x e is = get-from_entries text_total listed x ∙ is

  abbrev pub named : Text → Bool
  named x = list_any (eq_by_cmp text_cmp x) (map (λ (e : Text × ClassEntry). e.0) listed)

  named_is : (x : Text) → is_some (get table x) ≡ named x
  named_is x = ap is_some (get-from_entries text_total listed x) ∙ is_some-find text_cmp x listed

  abbrev pub there : Text → Bool
  there x = bytes_eq x object || named x

  pub exists_by : (x : Text) → there x ≡ true → Exists table x
  exists_by x e = either (or_true (bytes_eq x object) (named x) e) (λ is. inl ((bytes_eq-Decides x object).0 is)) (λ is. inr (named_is x ∙ is))

  pub missing_by : (x : Text) → there x ≡ false → Exists table x → ⊥
  missing_by x e (inl is) = false≢true (sym (or_false (bytes_eq x object) (named x) e).0 ∙ (bytes_eq-Decides x object).1 is)
  missing_by x e (inr is) = false≢true (sym (or_false (bytes_eq x object) (named x) e).1 ∙ sym (named_is x) ∙ is)

  entry_of : (c : Text) (e : ClassEntry) → get table c ≡ Some e → (x : Class) × Contains classes x × (x.name.text ≡ c) × (class_entry x ≡ e)
  entry_of c e is =
      let at = mapped_from (λ x. (x.name.text, class_entry x)) classes (c, e) (found_in_entries listed c e is) in
      (at.0, at.1, ap (λ y. y.0) at.2, ap (λ y. y.1) at.2)

  -- ---- chains

  abbrev pub climbs : ℕ → Text → Bool
  climbs zero x = bytes_eq x object
  climbs (suc n) x = bytes_eq x object || option_map_or (λ (e : ClassEntry). climbs n e.parent.text) (find text_cmp x listed) false

  at_object : (x : Text) → bytes_eq x object ≡ true → Steps table x object
  at_object x is = subst (λ y. Steps table y object) (sym ((bytes_eq-Decides x object).0 is)) stay

  above_up : (n : ℕ) (x : Text) (o : Option ClassEntry) → ((y : Text) → climbs n y ≡ true → Steps table y object) → find text_cmp x listed ≡ o
      → option_map_or (λ (y : ClassEntry). climbs n y.parent.text) o false ≡ true → Steps table x object
  above_up n x None further is e = absurd cc
  above_up n x (Some y) further is e = up (record { entry = y; there = found x y is; parent = refl }) (further y.parent.text e)

  climbs_up : (n : ℕ) (x : Text) → climbs n x ≡ true → Steps table x object
  climbs_up zero x e = at_object x e
  climbs_up (suc n) x e =
      either (or_true (bytes_eq x object) (option_map_or (λ (y : ClassEntry). climbs n y.parent.text) (find text_cmp x listed) false) e) (at_object x)
      (λ more. above_up n x (find text_cmp x listed) (climbs_up n) refl more)

  -- ---- the tests of a class

  abbrev pub parent : Class → Text
  parent c = (superclass_of c.name c.parent).text

  abbrev pub field_types_there : Class → Bool
  field_types_there c = list_all (λ f. there f.kind.text) c.fields

  abbrev pub signature_there : Method → Bool
  signature_there m = there m.kind.text && list_all (λ p. there p.kind.text) m.parameters

  -- its name isn't `Object`, its chain ends at `Object`, and the types of its fields and methods exist
  abbrev pub sound_class : Class → Bool
  sound_class c =
      not (bytes_eq c.name.text object) && (climbs (length classes) (parent c) && (field_types_there c && list_all signature_there c.methods))

  abbrev pub IsSound : Type 0
  IsSound = list_all sound_class classes ≡ true

  -- its superclass is `Object`
  abbrev pub AreFlat : Type 0
  AreFlat = list_all (λ c. bytes_eq (parent c) object) classes ≡ true

  module _ (sound : IsSound) where
    record Sound (c : Class) : Type 0 where
      pub name : bytes_eq c.name.text object ≡ true → ⊥
      pub climbs_so : Steps table (parent c) object
      pub fields : (f : Field) → Contains c.fields f → Exists table f.kind.text
      pub methods : (m : Method) → Contains c.methods m → signature_there m ≡ true

    its_sound : (c : Class) → Contains classes c → Sound c
    its_sound c of =
        let all = passes sound_class classes c sound of in
        let first = both_of (not (bytes_eq c.name.text object)) _ all in
        let second = both_of (climbs (length classes) (parent c)) _ first.1 in
        let third = both_of (field_types_there c) (list_all signature_there c.methods) second.1 in
        record {
          name = not_true (bytes_eq c.name.text object) first.0;
          climbs_so = climbs_up (length classes) (parent c) second.0;
          fields = λ f has. exists_by f.kind.text (passes (λ g. there g.kind.text) c.fields f third.0 has);
          methods = λ m has. passes signature_there c.methods m third.1 has;
        }

    pub no_object : get table object ≡ None
    no_object =
        either (none_or_value (get table object)) (λ none. none)
        (λ has. let x = entry_of object has.0 has.1 in absurd ((its_sound x.0 x.1).name ((bytes_eq-Decides x.0.name.text object).1 x.2)))

    climbs_out : (c : Text) (e : ClassEntry) → get table c ≡ Some e → Steps table c object
    climbs_out c e is =
        let x = entry_of c e is in
        up (record { entry = e; there = is; parent = refl }) (subst (λ y. Steps table y.parent.text object) x.3 (its_sound x.0 x.1).climbs_so)

    exists_on : (c : Text) → Steps table c object → Exists table c
    exists_on c stay = inl refl
    exists_on c (up has steps) = inr (ap is_some has.there)

    field_exists : (c f : Text) (e : ClassEntry) (field : FieldEntry) → get table c ≡ Some e → get e.fields f ≡ Some field → Exists table field.kind.text
    field_exists c f e field is has =
        let x = entry_of c e is in
        let at = mapped_from (λ g. (g.name.text, field_entry g)) x.0.fields (f, field) (found_in_entries _ f field (subst (λ y. get y.fields f ≡ Some field) (sym x.3) has)) in
        subst (λ y. Exists table y.kind.text) (ap (λ y. y.1) at.2) ((its_sound x.0 x.1).fields at.0 at.1)

    kind_exists : (m : Method) (kind : Spot) → signature_there m ≡ true → Contains (types_in (method_entry m).signature) kind → Exists table kind.text
    kind_exists m kind test within =
        let parts = both_of (there m.kind.text) (list_all (λ p. there p.kind.text) m.parameters) test in
        either (first_or_other m.kind kind (map (λ p. p.kind) m.parameters) within) (λ same. subst (λ k. Exists table k.text) same (exists_by m.kind.text parts.0))
        (λ later. let p = mapped_from (λ p. p.kind) m.parameters kind later in
        subst (λ k. Exists table k.text) p.2 (exists_by p.0.kind.text (passes (λ q. there q.kind.text) m.parameters p.0 parts.1 p.1)))

    type_exists : (c m : Text) (e : ClassEntry) (method : MethodEntry) (kind : Spot) → get table c ≡ Some e → get e.methods m ≡ Some method
        → Contains (types_in method.signature) kind → Exists table kind.text
    type_exists c m e method kind is has within =
        let x = entry_of c e is in
        let at = mapped_from (λ y. (y.name.text, method_entry y)) x.0.methods (m, method) (found_in_entries _ m method (subst (λ y. get y.methods m ≡ Some method) (sym x.3) has)) in
        kind_exists at.0 kind ((its_sound x.0 x.1).methods at.0 at.1) (subst (λ y. Contains (types_in y.signature) kind) (sym (ap (λ y. y.1) at.2)) within)

    ends_there : (c : Text) (e : ClassEntry) → get table c ≡ Some e → IsEndless table c → ⊥
    ends_there c e is endless = let top : IsSome (get table object) = endless object (climbs_out c e is) in false≢true (rw no_object at top)

    in_a_body : (t : Table) (home : Home) (e : Expr) (rule at : ℕ) → NodeRule t home e rule at → layer rule < 5 → ⊥
    in_a_body t home e rule at (unknown_variable is) low = omega arith
    in_a_body t home e rule at _ low = omega arith

    superclass_exists : (c : Text) (e : ClassEntry) → get table c ≡ Some e → Exists table e.parent.text
    superclass_exists c e is = let x = entry_of c e is in subst (λ y. Exists table y.parent.text) x.3 (exists_on (parent x.0) (its_sound x.0 x.1).climbs_so)

    -- no rule of layer 3 is broken
    pub nothing_third : (rule at : ℕ) → TableRule table rule at → layer rule < 4 → ⊥
    nothing_third rule at (unknown_superclass c e is missing) low = missing (superclass_exists c e is)
    nothing_third rule at (circular_superclasses c e is endless) low = ends_there c e is endless
    nothing_third rule at (unknown_field_type c f e field is has missing) low = missing (field_exists c f e field is has)
    nothing_third rule at (unknown_method_type c m e method kind is has within missing) low = missing (type_exists c m e method kind is has within)
    nothing_third rule at (of_node home body r p is breaks) low = in_a_body table home breaks.node rule at breaks.breaks (omega arith)
    nothing_third rule at _ low = omega arith

    module _ (flat : AreFlat) where
      not_above_object : (d : Text) (upper : ClassEntry) → Steps table object d → get table d ≡ Some upper → ⊥
      not_above_object d upper stay is = not_both upper _ no_object is
      not_above_object d upper (up has steps) is = not_both has.entry _ no_object has.there

      nothing_above : (c d : Text) (upper : ClassEntry) → Above table c d → get table d ≡ Some upper → ⊥
      nothing_above c d upper over is =
          let x = entry_of c over.1.entry over.1.there in
          let above_is : over.0 ≡ object = sym over.1.parent ∙ ap (λ e. e.parent.text) (sym x.3)
          ∙ (bytes_eq-Decides (parent x.0) object).0 (passes (λ c. bytes_eq (parent c) object) classes x.0 flat x.1) in
          not_above_object d upper (subst (λ y. Steps table y d) above_is over.2) is

      -- nor one of layer 4, where all superclasses are `Object`
      pub nothing_fourth : (rule at : ℕ) → TableRule table rule at → layer rule < 5 → ⊥
      nothing_fourth rule at (unknown_superclass c e is missing) low = missing (superclass_exists c e is)
      nothing_fourth rule at (circular_superclasses c e is endless) low = ends_there c e is endless
      nothing_fourth rule at (unknown_field_type c f e field is has missing) low = missing (field_exists c f e field is has)
      nothing_fourth rule at (unknown_method_type c m e method kind is has within missing) low = missing (type_exists c m e method kind is has within)
      nothing_fourth rule at (hidden_field c d f e upper field is has over upper_is there_it) low = nothing_above c d upper over upper_is
      nothing_fourth rule at (override_differs c d m e upper method other is has over upper_is there_it differs) low = nothing_above c d upper over upper_is
      nothing_fourth rule at (of_node home body r p is breaks) low = in_a_body table home breaks.node rule at breaks.breaks low
      nothing_fourth rule at (returned_type home body kind is types wrong) low = omega arith

      below_cases : (c d : Text) → Below table (class_kind c) (class_kind d) → (c ≡ d) ⊎ ((object ≡ d) ⊎ Above table c d)
      below_cases c d (same a) = inl refl
      below_cases c d (below_object a) = inr (inl refl)
      below_cases c d (above x y is) = inr (inr is)

      other_text : (x y : Text) → bytes_eq x y ≡ false → x ≡ y → ⊥
      other_text x y e is = false≢true (sym e ∙ (bytes_eq-Decides x y).1 is)

      -- so a class is below no other class of the table
      pub not_below : (c d : Text) (upper : ClassEntry) → bytes_eq c d ≡ false → bytes_eq object d ≡ false → get table d ≡ Some upper → Below table (class_kind c) (class_kind d) → ⊥
      not_below c d upper other not_object is below =
          either (below_cases c d below) (other_text c d other)
          (λ more. either more (other_text object d not_object) (λ over. nothing_above c d upper over is))

      nothing_in_object : {X : Type 0} (member : ClassEntry → Option X) (d : Text) (x : X) → Nearest table member object d x → ⊥
      nothing_in_object member d x (own {entry = e} is has) = not_both e _ no_object is
      nothing_in_object member d x (inherited {entry = e} is lacks more) = not_both e _ no_object is

      -- and has no member but its own
      pub lacks : {X : Type 0} (member : ClassEntry → Option X) (c d : Text) (e : ClassEntry) (x : X) → get table c ≡ Some e → bytes_eq e.parent.text object ≡ true
          → member e ≡ None → Nearest table member c d x → ⊥
      lacks member c d e x there_it top none (own {entry = f} is has) =
          let same_entry : f ≡ e = cc in not_both x (member e) none (subst (λ y. member y ≡ Some x) same_entry has)
      lacks member c d e x there_it top none (inherited {entry = f} is nothing more) =
          let same_entry : f ≡ e = cc in
          nothing_in_object member d x (subst (λ y. Nearest table member y d x) (ap (λ y. y.parent.text) same_entry ∙ (bytes_eq-Decides e.parent.text object).0 top) more)
