-- Members that are added to a class one after the other.
use Rattle.std.proofs.Common.{◌≡◌, ℕ, ◌+◌, List, [], ◌∷◌, ◌++◌, map, take, All, Option, Some, None, slice_get, refl, sym, ap, ◌∙◌}
use Rattle.std.specs.Option.{option_map, option_and_then, IsSome, IsSomeAnd, is_some}
use Rattle.std.specs.FinMap.{get, insert, empty}
use Rattle.std.proofs.lemmas.List.{take_more}
use Rattle.std.proofs.lemmas.Option.{slice_get_within, get_or_from_slice_get, slice_get-map}
use Rattle.dj_names.specs.Texts.{Text}
use Rattle.dj_tree.specs.Trees.{Spot, Field, Method, Class}
use Rattle.dj_calculus.specs.Entries.{field_entry, method_entry, class_entry}
use Rattle.dj_calculus.specs.JavaFiles.{table_of}
use Rattle.dj_calculus.specs.Maps.{TextMap}
use Rattle.dj_calculus.specs.Tables.{ClassEntry, Table}
use Rattle.ifj_table.specs.Changes.{changed_at, with_field, with_method}
use Rattle.ifj_table.specs.Lookups.{own_field, own_method}
use Rattle.ifj_table.proofs.TableChanges.{changed_there, unchanged}
use Rattle.ifj_table.proofs.TableLemmas.{all_at}
use Rattle.java_reader.specs.Making.{declared, StandOnce, with_fields, with_methods}
use Rattle.java_reader.specs.declared.named.Named.{Named}
use Rattle.java_reader.proofs.Entering.{entered, absent, entered_last, apart_before, got_inserted, changed_inserted}

pub one_more : {X : Type 0} (xs : List X) (i : ℕ) (x : X) → slice_get xs i ≡ Some x → take (i + 1) xs ≡ take i xs ++ x ∷ []
one_more xs i x at = take_more xs i x (slice_get_within xs i x at) ∙ ap (λ y. take i xs ++ y ∷ []) (get_or_from_slice_get xs i x x at)

some_and : {X : Type 0} (P : X → Type 0) (o : Option X) → IsSomeAnd o P → (x : X) × (o ≡ Some x) × P x
some_and P None h = absurd h
some_and P (Some x) h = (x, refl, h)

-- members of one kind, which `look` finds in a class and `write` puts there
module _ {E X : Type 0} (name : E → Spot) (read : E → X) (look : ClassEntry → TextMap X) (write : TextMap X → ClassEntry → ClassEntry)
    (looked : (m : TextMap X) (c : ClassEntry) → look (write m c) ≡ m) (written : (m n : TextMap X) (c : ClassEntry) → write m (write n c) ≡ write m c)
    (same : (c : ClassEntry) → write (look c) c ≡ c) (t : Table) (k : Text) (bare : IsSomeAnd (get t k) (λ c. look c ≡ empty)) where
  old : (c : ClassEntry) × (get t k ≡ Some c) × (look c ≡ empty)
  old = some_and (λ c. look c ≡ empty) (get t k) bare

  abbrev with_all : List E → ClassEntry → ClassEntry
  with_all es c = write (entered name read es) c

  abbrev with_one : E → ClassEntry → ClassEntry
  with_one e c = write (insert (look c) (name e).text (read e)) c

  pub none_yet : t ≡ changed_at t k (with_all [])
  none_yet =
      sym (changed_there t k old.0 (with_all []) old.1 ∙ ap (insert t k) (ap (λ m. write m old.0) (sym old.2) ∙ same old.0) ∙ sym (changed_there t k old.0 (λ y. y) old.1) ∙ unchanged t k old.0 old.1)

  so_far : (u : Table) (es : List E) → u ≡ changed_at t k (with_all es) → u ≡ insert t k (with_all es old.0)
  so_far u es is = is ∙ changed_there t k old.0 (with_all es) old.1

  there : (u : Table) (es : List E) → u ≡ changed_at t k (with_all es) → get u k ≡ Some (with_all es old.0)
  there u es is = ap (λ v. get v k) (so_far u es is) ∙ got_inserted t k (with_all es old.0)

  pub is_there : (u : Table) (es : List E) → u ≡ changed_at t k (with_all es) → IsSome (get u k)
  is_there u es is = ap is_some (there u es is)

  pub not_yet : (u : Table) (es : List E) (i : ℕ) (e : E) → StandOnce (map name es) → slice_get es i ≡ Some e → u ≡ changed_at t k (with_all (take i es))
      → option_and_then (λ c. get (look c) (name e).text) (get u k) ≡ None
  not_yet u es i e once at is =
      ap (option_and_then (λ c. get (look c) (name e).text)) (there u (take i es) is) ∙ ap (λ m. get m (name e).text) (looked (entered name read (take i es)) old.0)
      ∙ absent name read (take i es) e (apart_before name read es i e at once)

  pub one_added : (u v : Table) (es : List E) (i : ℕ) (e : E) → StandOnce (map name es) → slice_get es i ≡ Some e → u ≡ changed_at t k (with_all (take i es))
      → v ≡ changed_at u k (with_one e) → v ≡ changed_at t k (with_all (take (i + 1) es))
  one_added u v es i e once at is step =
      let before = with_all (take i es) old.0 in
      step ∙ ap (λ w. changed_at w k (with_one e)) (so_far u (take i es) is) ∙ changed_inserted t k before (with_one e)
      ∙ ap (insert t k) (ap (λ m. write (insert m (name e).text (read e)) before) (looked (entered name read (take i es)) old.0)
      ∙ written (insert (entered name read (take i es)) (name e).text (read e)) (entered name read (take i es)) old.0
      ∙ ap (λ m. write m old.0) (sym (entered_last name read (take i es) e (apart_before name read es i e at once)) ∙ ap (entered name read) (sym (one_more es i e at))))
      ∙ sym (changed_there t k old.0 (with_all (take (i + 1) es)) old.1)

-- ---- fields and methods

module _ (t : Table) (k : Text) (bare : IsSomeAnd (get t k) (λ c. c.fields ≡ empty)) where
  pub no_field_yet : t ≡ changed_at t k (with_fields [])
  no_field_yet = none_yet (λ (f : Field). f.name) field_entry (λ c. c.fields) (λ m c. record c { fields = m }) (λ m c. refl) (λ m n c. refl) (λ c. refl) t k bare

  pub field_class : (u : Table) (fs : List Field) → u ≡ changed_at t k (with_fields fs) → IsSome (get u k)
  field_class = is_there (λ (f : Field). f.name) field_entry (λ c. c.fields) (λ m c. record c { fields = m }) (λ m c. refl) (λ m n c. refl) (λ c. refl) t k bare

  pub field_not_yet : (u : Table) (fs : List Field) (i : ℕ) (f : Field) → StandOnce (map (λ f. f.name) fs) → slice_get fs i ≡ Some f → u ≡ changed_at t k (with_fields (take i fs))
      → own_field u k f.name.text ≡ None
  field_not_yet = not_yet (λ (f : Field). f.name) field_entry (λ c. c.fields) (λ m c. record c { fields = m }) (λ m c. refl) (λ m n c. refl) (λ c. refl) t k bare

  pub field_added : (u v : Table) (fs : List Field) (i : ℕ) (f : Field) → StandOnce (map (λ f. f.name) fs) → slice_get fs i ≡ Some f → u ≡ changed_at t k (with_fields (take i fs))
      → v ≡ changed_at u k (with_field f.name.text (field_entry f)) → v ≡ changed_at t k (with_fields (take (i + 1) fs))
  field_added = one_added (λ (f : Field). f.name) field_entry (λ c. c.fields) (λ m c. record c { fields = m }) (λ m c. refl) (λ m n c. refl) (λ c. refl) t k bare

module _ (t : Table) (k : Text) (bare : IsSomeAnd (get t k) (λ c. c.methods ≡ empty)) where
  pub no_method_yet : t ≡ changed_at t k (with_methods [])
  no_method_yet = none_yet (λ (m : Method). m.name) method_entry (λ c. c.methods) (λ m c. record c { methods = m }) (λ m c. refl) (λ m n c. refl) (λ c. refl) t k bare

  pub method_class : (u : Table) (ms : List Method) → u ≡ changed_at t k (with_methods ms) → IsSome (get u k)
  method_class = is_there (λ (m : Method). m.name) method_entry (λ c. c.methods) (λ m c. record c { methods = m }) (λ m c. refl) (λ m n c. refl) (λ c. refl) t k bare

  pub method_not_yet : (u : Table) (ms : List Method) (i : ℕ) (m : Method) → StandOnce (map (λ m. m.name) ms) → slice_get ms i ≡ Some m → u ≡ changed_at t k (with_methods (take i ms))
      → own_method u k m.name.text ≡ None
  method_not_yet = not_yet (λ (m : Method). m.name) method_entry (λ c. c.methods) (λ m c. record c { methods = m }) (λ m c. refl) (λ m n c. refl) (λ c. refl) t k bare

  pub method_added : (u v : Table) (ms : List Method) (i : ℕ) (m : Method) → StandOnce (map (λ m. m.name) ms) → slice_get ms i ≡ Some m → u ≡ changed_at t k (with_methods (take i ms))
      → v ≡ changed_at u k (with_method m.name.text (method_entry m)) → v ≡ changed_at t k (with_methods (take (i + 1) ms))
  method_added = one_added (λ (m : Method). m.name) method_entry (λ c. c.methods) (λ m c. record c { methods = m }) (λ m c. refl) (λ m n c. refl) (λ c. refl) t k bare

-- ---- classes

pub class_not_yet : (u : Table) (cs : List Class) (i : ℕ) (c : Class) → StandOnce (map (λ c. c.name) cs) → slice_get cs i ≡ Some c → u ≡ table_of (take i cs)
    → get u c.name.text ≡ None
class_not_yet u cs i c once at is =
    ap (λ w. get w c.name.text) is ∙ absent (λ (d : Class). d.name) class_entry (take i cs) c (apart_before (λ (d : Class). d.name) class_entry cs i c at once)

pub class_added : (u v : Table) (cs : List Class) (i : ℕ) (c : Class) → StandOnce (map (λ c. c.name) cs) → slice_get cs i ≡ Some c → u ≡ table_of (take i cs)
    → v ≡ insert u c.name.text (class_entry c) → v ≡ table_of (take (i + 1) cs)
class_added u v cs i c once at is step =
    step ∙ ap (λ w. insert w c.name.text (class_entry c)) is
    ∙ sym (entered_last (λ (d : Class). d.name) class_entry (take i cs) c (apart_before (λ (d : Class). d.name) class_entry cs i c at once))
    ∙ ap table_of (sym (one_more cs i c at))

-- ---- declarations by their places

module _ {D : Type 0} (ns : List (Named D)) (i : ℕ) (n : Named D) (at : slice_get ns i ≡ Some n) where
  stands : slice_get (declared ns) i ≡ Some n.declaration.now
  stands = slice_get-map (λ (m : Named D). m.declaration.now) ns i ∙ ap (option_map (λ (m : Named D). m.declaration.now)) at

  pub declared_at : {P : Type 0} (plain : D → P) → slice_get (map plain (declared ns)) i ≡ Some (plain n.declaration.now)
  declared_at plain = slice_get-map plain (declared ns) i ∙ ap (option_map plain) stands

  pub declared_has : (P : D → Type 0) → All P (declared ns) → P n.declaration.now
  declared_has P all = all_at P (declared ns) i n.declaration.now all stands
