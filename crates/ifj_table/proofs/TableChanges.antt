-- The classes of a table after a class is put in, changed or taken out.
use Rattle.std.proofs.Common.{◌≡◌, ◌≢◌, ℕ, ◌<◌, Bool, true, false, cond, List, [], ◌∷◌, map, set, Option, Some, None, slice_get, get_or, refl, sym, ap, ap₂, ◌∙◌, subst, arith}
use Rattle.std.specs.Prelude.{All, IsSome, is_some}
use Rattle.std.specs.List.{insert, remove}
use Rattle.std.specs.Option.{option_map}
use Rattle.std.specs.Str.{bytes_eq}
use Rattle.std.specs.FinMap as finite
use Rattle.std.specs.Ordering.{eq_by_cmp}
use Rattle.std.specs.FinMap.{get, get-insert, same_map, slice_cmp-IsAntisymmetric, nat_cmp-IsAntisymmetric}
use Rattle.std.proofs.lemmas.Cmp.{nat_list_cmp_total}
use Rattle.std.proofs.lemmas.Slice.Eq.{bytes_eq-Decides}
use Rattle.std.proofs.lemmas.List.Elements.{All-set, All-nil}
use Rattle.std.proofs.lemmas.Option.{get_or_from_slice_get}
use Rattle.dj_names.specs.Texts.{Text}
use Rattle.dj_tree.specs.Plain.{plain_spot}
use Rattle.dj_tree.specs.WellFormed.{IsKnown}
use Rattle.dj_tree.specs.declared.expression.ExprNode.{ExprNode}
use Rattle.dj_calculus.specs.Maps.{TextMap, text_cmp, with_at}
use Rattle.dj_calculus.specs.Subclasses.{object}
use Rattle.dj_calculus.specs.Tables as calculus
use Rattle.ifj_table.specs.Sorted.{AreRising, IsGap}
use Rattle.ifj_table.specs.Entries.{text_at, fields_of, methods_of, plain_class, classes_of}
use Rattle.ifj_table.specs.Held.{IsFieldEntry, IsMethodEntry, IsClassEntry, AreClasses}
use Rattle.ifj_table.specs.Changes.{changed_at, bare_class}
use Rattle.ifj_table.specs.declared.entry.ClassEntry.{ClassEntry}
use Rattle.ifj_table.proofs.EntryMaps.{inserted, set_at, removed, keys_inserted, keys_set, keys_removed, all_inserted, all_removed}
use Rattle.ifj_table.proofs.MapLists.{rising_none, tied_same}
use Rattle.ifj_table.proofs.TableLemmas.{class_key, class_at}

-- what a push or an insert leaves, whether it found memory or not
pub either_list : {X : Type 0} (P : List X → Type 0) (b : Bool) (xs ys zs : List X) → zs ≡ cond b xs ys → P xs → P ys → P zs
either_list P true xs ys zs e one other = subst P (sym e) one
either_list P false xs ys zs e one other = subst P (sym e) other

-- a name that isn't `Object`
pub not_object : (t : Text) → t ≢ object → bytes_eq t object ≡ false
not_object t apart = by (bytes_eq t object) refl
  where
    by : (b : Bool) → bytes_eq t object ≡ b → b ≡ false
    by true e = absurd (apart ((bytes_eq-Decides t object).0 e))
    by false e = refl

-- a change where something stands
pub changed_there : {X : Type 0} (m : TextMap X) (k : Text) (x : X) (change : X → X) → get m k ≡ Some x → changed_at m k change ≡ finite.insert m k (change x)
changed_there m k x change there = ap (λ o. with_at m k (option_map change o)) there

-- a change that changes nothing, where something stands
pub unchanged : {X : Type 0} (m : TextMap X) (k : Text) (x : X) → get m k ≡ Some x → changed_at m k (λ (y : X). y) ≡ m
unchanged {X = X} m k x there =
    changed_there m k x (λ (y : X). y) there
    ∙ same_map nat_list_cmp_total (slice_cmp-IsAntisymmetric nat_cmp-IsAntisymmetric) (finite.insert m k x) m (λ q. get-insert nat_list_cmp_total m k x q ∙ by q (eq_by_cmp text_cmp q k) refl)
  where
    by : (q : Text) (b : Bool) → eq_by_cmp text_cmp q k ≡ b → cond b (Some x) (get m q) ≡ get m q
    by q true e = sym (ap (get m) (tied_same q k e) ∙ there)
    by q false e = refl

module _ (names : List Text) (exprs : List ExprNode) (classes : List ClassEntry) (held : AreClasses names exprs classes) where
  pub with_class : (at : ℕ) (c : ClassEntry) → IsClassEntry names exprs c → IsGap (map (class_key names) classes) (class_key names c) at → AreClasses names exprs (insert classes at c)
  with_class at c is gap = record {
    nodes = held.nodes;
    each = all_inserted (IsClassEntry names exprs) classes at c held.each is;
    rising = keys_inserted (class_key names) classes at c held.rising gap;
  }

  pub with_changed : (at : ℕ) (old new : ClassEntry) → slice_get classes at ≡ Some old → class_key names new ≡ class_key names old → IsClassEntry names exprs new → AreClasses names exprs (set classes at new)
  with_changed at old new here same is = record {
    nodes = held.nodes;
    each = All-set (IsClassEntry names exprs) classes at new is held.each;
    rising = keys_set (class_key names) classes at old new here same held.rising;
  }

  pub without_class : (at : ℕ) → AreClasses names exprs (remove classes at)
  without_class at = record {
    nodes = held.nodes;
    each = all_removed (IsClassEntry names exprs) classes at held.each;
    rising = keys_removed (class_key names) classes at held.rising;
  }

  pub map_with_class : (at : ℕ) (c : ClassEntry) → get (classes_of names exprs classes) (class_key names c) ≡ None
      → classes_of names exprs (insert classes at c) ≡ finite.insert (classes_of names exprs classes) (class_key names c) (plain_class names exprs c)
  map_with_class at c none = inserted (class_key names) (plain_class names exprs) classes at c none

  -- the class of this name changed
  pub map_with_changed : (at : ℕ) (k : Text) (old new : ClassEntry) (change : calculus.ClassEntry → calculus.ClassEntry) → slice_get (map (class_key names) classes) at ≡ Some k → old ≡ get_or classes at old
      → class_key names new ≡ class_key names old → plain_class names exprs new ≡ change (plain_class names exprs old)
      → classes_of names exprs (set classes at new) ≡ changed_at (classes_of names exprs classes) k change
  map_with_changed at k old new change here is same changes =
      let it = class_at names exprs classes held at k here in
      let this : it.0 ≡ old = read it.0 it.1 in
      let key_is : class_key names old ≡ k = sym (ap (class_key names) this) ∙ it.2 in
      set_at (class_key names) (plain_class names exprs) classes at old new held.rising (it.1 ∙ ap Some this) same
      ∙ ap₂ (λ key c. finite.insert (classes_of names exprs classes) key c) (same ∙ key_is) changes
      ∙ sym (changed_there (classes_of names exprs classes) k (plain_class names exprs old) change (subst (λ (c : ClassEntry). get (classes_of names exprs classes) k ≡ Some (plain_class names exprs c)) this it.3))
    where
      read : (c : ClassEntry) → slice_get classes at ≡ Some c → c ≡ old
      read c there = sym (get_or_from_slice_get classes at c old there) ∙ sym is

  pub map_without : (at : ℕ) (k : Text) → slice_get (map (class_key names) classes) at ≡ Some k → classes_of names exprs (remove classes at) ≡ finite.remove (classes_of names exprs classes) k
  map_without at k here =
      let it = class_at names exprs classes held at k here in
      removed (class_key names) (plain_class names exprs) classes at it.0 held.rising it.1 ∙ ap (finite.remove (classes_of names exprs classes)) it.2

-- ---- a class without members

pub bare_is_class : (names : List Text) (exprs : List ExprNode) (c : ClassEntry) → IsKnown names c.spot → IsKnown names c.parent → class_key names c ≢ object → c.fields.items ≡ [] → c.methods.items ≡ []
    → IsClassEntry names exprs c
bare_is_class names exprs c spot parent apart fields methods = record {
  spot = spot;
  parent = parent;
  declarable = not_object (class_key names c) apart;
  fields = subst (All (IsFieldEntry names)) (sym fields) (All-nil (IsFieldEntry names));
  rising_fields = subst (λ fs. AreRising (map (λ f. text_at names f.spot) fs)) (sym fields) rising_none;
  methods = subst (All (IsMethodEntry names exprs)) (sym methods) (All-nil (IsMethodEntry names exprs));
  rising_methods = subst (λ ms. AreRising (map (λ m. text_at names m.spot) ms)) (sym methods) rising_none;
}

pub plain_bare : (names : List Text) (exprs : List ExprNode) (c : ClassEntry) → c.fields.items ≡ [] → c.methods.items ≡ [] → plain_class names exprs c ≡ bare_class c.spot.at (plain_spot names c.parent)
plain_bare names exprs c fields methods =
    ap₂ (λ fs ms. record { at = c.spot.at; parent = plain_spot names c.parent; fields = fields_of names fs; methods = methods_of names exprs ms }) fields methods
