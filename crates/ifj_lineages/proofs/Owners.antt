-- Classes of a table by their names, and the members that a search found in them.
use Rattle.std.proofs.Common.{◌≡◌, ◌⊎◌, ℕ, ◌<◌, List, [], map, Some, None, length, slice_get, sym, ap, ◌∙◌, subst, arith}
use Rattle.std.specs.Prelude.{unwrap_or}
use Rattle.std.specs.Option.{option_map}
use Rattle.std.specs.FinMap.{get}
use Rattle.std.proofs.lemmas.Option.{slice_get-map, slice_get-get_or, unwrap_or-slice_get}
use Rattle.dj_names.specs.Texts.{Text, AreDistinct}
use Rattle.dj_calculus.proofs.Members.{same_some, either}
use Rattle.ifj_table.specs.Sorted.{AreRising}
use Rattle.ifj_table.specs.Entries.{text_at, plain_class}
use Rattle.ifj_table.specs.Held.{IsFieldEntry, IsMethodEntry}
use Rattle.ifj_table.specs.Tables.{plain_table}
use Rattle.ifj_table.specs.Lookups.{IsClassNamed, IsFoundField, IsFoundMethod}
use Rattle.ifj_table.specs.declared.entry.ClassEntry.{ClassEntry}
use Rattle.ifj_table.specs.declared.entry.FieldEntry.{FieldEntry}
use Rattle.ifj_table.specs.declared.entry.MethodEntry.{MethodEntry}
use Rattle.ifj_table.specs.declared.lookups.Found.{Found}
use Rattle.ifj_table.specs.declared.table.Table.{Table}
use Rattle.ifj_table.proofs.MapLists.{not_less_itself}
use Rattle.ifj_table.proofs.TableLemmas.{class_key, class_at, all_at}
use Rattle.ifj_table.proofs.Inherited.{entry_held}

ordered : (i j : ℕ) → (i < j) ⊎ ((i ≡ j) ⊎ (j < i))
ordered i j = grind arith

-- a text stands once in a list that rises
pub rising_once : (keys : List Text) (i j : ℕ) (key : Text) → AreRising keys → slice_get keys i ≡ Some key → slice_get keys j ≡ Some key → i ≡ j
rising_once keys i j key rising one other =
    either (ordered i j) (λ low. not_less_itself key (rising i j key key low one other))
    (λ more. either more (λ same. same) (λ low. not_less_itself key (rising j i key key low other one)))

module _ (t : Table) where
  pub key_at : (number : ℕ) (name : Text) (class : ClassEntry) → slice_get t.classes.items number ≡ Some class → text_at t.names class.spot ≡ name
      → slice_get (map (class_key t.names) t.classes.items) number ≡ Some name
  key_at number name class stands named =
      slice_get-map (class_key t.names) t.classes.items number ∙ ap (option_map (class_key t.names)) stands ∙ ap Some named

  -- a class that has a name is what the class table has there
  pub named_there : (name : Text) (class : ClassEntry) → IsClassNamed t name class → get (plain_table t) name ≡ Some (plain_class t.names t.exprs class)
  named_there name class is =
      let it = class_at t.names t.exprs t.classes.items t.held is.number name (key_at is.number name class is.stands is.named) in
      let same : it.0 ≡ class = same_some it.0 class (slice_get t.classes.items is.number) it.1 is.stands in
      it.3 ∙ ap (λ (c : ClassEntry). Some (plain_class t.names t.exprs c)) same

  -- a class of the table is known by its name
  pub one_class_named : (name : Text) (a b : ClassEntry) → IsClassNamed t name a → IsClassNamed t name b → a ≡ b
  one_class_named name a b one other =
      let same = rising_once (map (class_key t.names) t.classes.items) one.number other.number name t.held.rising
      (key_at one.number name a one.stands one.named) (key_at other.number name b other.stands other.named) in
      same_some a b (slice_get t.classes.items other.number) (subst (λ n. slice_get t.classes.items n ≡ Some a) same one.stands) other.stands

  pub not_missing : {G : Type 0} (name : Text) (class : ClassEntry) → IsClassNamed t name class → get (plain_table t) name ≡ None → G
  not_missing name class is none = let there = named_there name class is in absurd cc

  module _ (class name : Text) (found : Found) (owner : ClassEntry) where
    pub field_stands : (is : IsFoundField t class name found) → IsClassNamed t (text_at t.names (record { name = found.owner; at = 0 })) owner → slice_get owner.fields.items found.place ≡ Some is.entry
    field_stands is named =
        let same = one_class_named _ is.owner owner is.is_owner named in
        subst (λ (c : ClassEntry). slice_get c.fields.items found.place ≡ Some is.entry) same is.stands

    pub method_stands : (is : IsFoundMethod t class name found) → IsClassNamed t (text_at t.names (record { name = found.owner; at = 0 })) owner → slice_get owner.methods.items found.place ≡ Some is.entry
    method_stands is named =
        let same = one_class_named _ is.owner owner is.is_owner named in
        subst (λ (c : ClassEntry). slice_get c.methods.items found.place ≡ Some is.entry) same is.stands

  pub field_held : (name : Text) (class : ClassEntry) (number : ℕ) (f : FieldEntry) → IsClassNamed t name class → slice_get class.fields.items number ≡ Some f → IsFieldEntry t.names f
  field_held name class number f named here = all_at (IsFieldEntry t.names) class.fields.items number f (entry_held t name class named).fields here

  pub method_held : (name : Text) (class : ClassEntry) (number : ℕ) (m : MethodEntry) → IsClassNamed t name class → slice_get class.methods.items number ≡ Some m → IsMethodEntry t.names t.exprs m
  method_held name class number m named here = all_at (IsMethodEntry t.names t.exprs) class.methods.items number m (entry_held t name class named).methods here

-- names with one text have one number
pub one_number : (names : List Text) (i j : ℕ) → AreDistinct names → i < length names → j < length names → unwrap_or (slice_get names i) [] ≡ unwrap_or (slice_get names j) [] → i ≡ j
one_number names i j distinct low lower same =
    distinct i j (unwrap_or (slice_get names i) []) (there i low) (there j lower ∙ ap Some (sym same))
  where
    there : (k : ℕ) → k < length names → slice_get names k ≡ Some (unwrap_or (slice_get names k) [])
    there k within = slice_get-get_or names k [] within ∙ ap Some (sym (unwrap_or-slice_get names k []))
