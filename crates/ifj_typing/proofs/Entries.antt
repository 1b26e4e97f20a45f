-- The entries of a table, and what the class table has in their places.
use Rattle.std.proofs.Common.{◌≡◌, ℕ, List, map, Some, None, length, slice_get, Contains, refl, sym, ◌∙◌, subst, arith}
use Rattle.std.specs.FinMap.{get}
use Rattle.std.proofs.lemmas.Bool.{false≢true}
use Rattle.std.proofs.lemmas.List.{length-map}
use Rattle.std.proofs.lemmas.Slice.Eq.{bytes_eq-Decides}
use Rattle.dj_names.specs.Texts.{Text}
use Rattle.dj_calculus.specs.Tables as calculus
use Rattle.dj_calculus.specs.Subclasses.{object}
use Rattle.dj_calculus.specs.TableForms.{IsTable, IsMethod, HasBody}
use Rattle.dj_calculus.proofs.Chains.{none_or_value}
use Rattle.dj_calculus.proofs.Counting.{number_in}
use Rattle.dj_calculus.proofs.Members.{either, same_some, mapped_from}
use Rattle.ifj_table.specs.Sorted.{AreRising, map_of}
use Rattle.ifj_table.specs.Entries.{plain_field, plain_body, plain_method, plain_class}
use Rattle.ifj_table.specs.Held.{IsBody, IsMethodEntry, IsClassEntry}
use Rattle.ifj_table.specs.Tables.{plain_table}
use Rattle.ifj_table.specs.declared.entry.FieldEntry.{FieldEntry}
use Rattle.ifj_table.specs.declared.entry.MethodEntry.{MethodEntry}
use Rattle.ifj_table.specs.declared.entry.ClassEntry.{ClassEntry}
use Rattle.ifj_table.specs.declared.table.Table.{Table}
use Rattle.ifj_table.proofs.EntryMaps.{got, got_at, some_there}
use Rattle.ifj_table.proofs.MemberLemmas.{field_key, method_key}
use Rattle.ifj_table.proofs.TableLemmas.{class_key, all_at}
use Rattle.ifj_lineages.proofs.Owners.{named_there}

-- the entry of a list that stands at a key of its map
pub record Entry {E X : Type 0} (key : E → Text) (read : E → X) (es : List E) (k : Text) (x : X) : Type 0 where
  pub number : ℕ
  pub entry : E
  pub stands : slice_get es number ≡ Some entry
  pub named : key entry ≡ k
  pub reads : read entry ≡ x

entry_from : {E X : Type 0} (key : E → Text) (read : E → X) (es : List E) (k : Text) (x : X) → AreRising (map key es) → get (map_of key read es) k ≡ Some x → Entry key read es k x
entry_from key read es k x rising there =
    let at = some_there key read es k x there in
    let it = got_at key read es at.0 k rising at.1 in
    record { number = at.0; entry = it.0; stands = it.1; named = it.2; reads = same_some (read it.0) x (get (map_of key read es) k) it.3 there }

module _ (t : Table) where
  pub class_from : (c : Text) (x : calculus.ClassEntry) → get (plain_table t) c ≡ Some x → Entry (class_key t.names) (plain_class t.names t.exprs) t.classes.items c x
  class_from c x there = entry_from (class_key t.names) (plain_class t.names t.exprs) t.classes.items c x t.held.rising there

  pub class_there : (n : ℕ) (class : ClassEntry) → slice_get t.classes.items n ≡ Some class → get (plain_table t) (class_key t.names class) ≡ Some (plain_class t.names t.exprs class)
  class_there n class stands = named_there t (class_key t.names class) class (record { number = n; stands = stands; named = refl })

  pub class_is : (n : ℕ) (class : ClassEntry) → slice_get t.classes.items n ≡ Some class → IsClassEntry t.names t.exprs class
  class_is n class stands = all_at (IsClassEntry t.names t.exprs) t.classes.items n class t.held.each stands

  module _ (n : ℕ) (class : ClassEntry) (stands : slice_get t.classes.items n ≡ Some class) where
    pub field_from : (x : calculus.ClassEntry) (f : Text) (field : calculus.FieldEntry) → plain_class t.names t.exprs class ≡ x → get x.fields f ≡ Some field
        → Entry (field_key t.names) (plain_field t.names) class.fields.items f field
    field_from x f field is has =
        entry_from (field_key t.names) (plain_field t.names) class.fields.items f field (class_is n class stands).rising_fields (subst (λ (y : calculus.ClassEntry). get y.fields f ≡ Some field) (sym is) has)

    pub field_there : (k : ℕ) (f : FieldEntry) → slice_get class.fields.items k ≡ Some f → get (plain_class t.names t.exprs class).fields (field_key t.names f) ≡ Some (plain_field t.names f)
    field_there k f here = got (field_key t.names) (plain_field t.names) class.fields.items k f (class_is n class stands).rising_fields here

    pub method_from : (x : calculus.ClassEntry) (m : Text) (method : calculus.MethodEntry) → plain_class t.names t.exprs class ≡ x → get x.methods m ≡ Some method
        → Entry (method_key t.names) (plain_method t.names t.exprs) class.methods.items m method
    method_from x m method is has =
        entry_from (method_key t.names) (plain_method t.names t.exprs) class.methods.items m method (class_is n class stands).rising_methods
        (subst (λ (y : calculus.ClassEntry). get y.methods m ≡ Some method) (sym is) has)

    pub method_there : (k : ℕ) (m : MethodEntry) → slice_get class.methods.items k ≡ Some m → get (plain_class t.names t.exprs class).methods (method_key t.names m) ≡ Some (plain_method t.names t.exprs m)
    method_there k m here = got (method_key t.names) (plain_method t.names t.exprs) class.methods.items k m (class_is n class stands).rising_methods here

    pub method_is : (k : ℕ) (m : MethodEntry) → slice_get class.methods.items k ≡ Some m → IsMethodEntry t.names t.exprs m
    method_is k m here = all_at (IsMethodEntry t.names t.exprs) class.methods.items k m (class_is n class stands).methods here

  -- ---- what every class table has

  no_object : get (plain_table t) object ≡ None
  no_object = either (none_or_value (get (plain_table t) object)) (λ none. none) (λ some. absurd (not_object some.0 some.1))
    where
      not_object : (x : calculus.ClassEntry) → get (plain_table t) object ≡ Some x → ⊥
      not_object x there =
          let it = class_from object x there in
          false≢true (sym (class_is it.number it.entry it.stands).declarable ∙ (bytes_eq-Decides (class_key t.names it.entry) object).1 it.named)

  body_is : (n : ℕ) (m : MethodEntry) → IsMethodEntry t.names t.exprs m → (body : calculus.Body) → Contains (plain_method t.names t.exprs m).bodies body → HasBody (plain_method t.names t.exprs m).signature body
  body_is n m is body within =
      let from = mapped_from (plain_body t.names t.exprs) m.bodies.items body within in
      let number = number_in m.bodies.items from.0 from.1 in
      let held = all_at (IsBody t.names t.exprs (length m.parameters)) m.bodies.items number.0 from.0 is.bodies number.1 in
      subst (HasBody (plain_method t.names t.exprs m).signature) from.2
      (record { expression = held.expression; count = length-map from.0.parameters _ ∙ held.count ∙ sym (length-map m.parameters _) })

  pub is_table : IsTable (plain_table t)
  is_table =
      record {
        no_object = no_object;
        methods = λ c m x method there has.
            let class = class_from c x there in
            let entry = method_from class.number class.entry class.stands x m method class.reads has in
            let is = method_is class.number class.entry class.stands entry.number entry.entry entry.stands in
            subst IsMethod entry.reads (record { some = omega (arith, length-map entry.entry.bodies.items (plain_body t.names t.exprs), is.some); bodies = body_is entry.number entry.entry is });
      }
