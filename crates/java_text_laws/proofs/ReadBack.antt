-- The canonical text of a writable table reads back as the table.
use Rattle.std.proofs.Common.{◌≡◌, ℕ, zero, suc, ◌<◌, ◌&&◌, Bool, true, false, List, [], ◌∷◌, map, Some, slice_get, Contains, codes, refl, sym, ap, ◌∙◌, subst, arith}
use Rattle.std.specs.Prelude.{T}
use Rattle.std.specs.Option.{option_map}
use Rattle.std.specs.Ordering.{is_lt}
use Rattle.std.specs.FinMap.{get, entries, entries_sorted, is_sorted, from_entries}
use Rattle.std.specs.FinMap.Entries.{below_all}
use Rattle.std.proofs.lemmas.Cmp.{tied_itself}
use Rattle.std.proofs.lemmas.Option.{slice_get-map}
use Rattle.dj_names.specs.Texts.{Text}
use Rattle.dj_lexer.specs.Symbols.{symbols_of}
use Rattle.dj_tree.specs.Spells.{SpellsJava}
use Rattle.dj_tree.specs.Trees.{Spot, Method, Class}
use Rattle.dj_calculus.specs.FaultPlaces.{Repeats}
use Rattle.dj_calculus.specs.Maps.{text_cmp, TextMap, map_values}
use Rattle.dj_calculus.specs.Tables.{FieldEntry, Body, MethodEntry, ClassEntry, Table, SameTable, texts_of, unplaced, unplaced_field, unplaced_method, unplaced_body, unplaced_class}
use Rattle.dj_calculus.specs.Entries.{field_entry, method_entry, body_of, class_entry, superclass_of}
use Rattle.dj_calculus.specs.JavaFiles.{JavaFault, JavaFaultStands, repeated_class, object_class, repeated_field, repeated_method, repeated_parameter, table_of, ReadsAs, IsJava}
use Rattle.dj_calculus.specs.JavaText.{java_text}
use Rattle.dj_calculus.proofs.MapLemmas.{text_total, entry_found, changed_entries}
use Rattle.dj_calculus.proofs.Members.{not_both, mapped, mapped_within, mapped_from}
use Rattle.java_text_laws.specs.Writable.{IsWritable}
use Rattle.java_text_laws.proofs.Bits.{text_of}
use Rattle.java_text_laws.proofs.BitTokens.{has_tokens}
use Rattle.java_text_laws.proofs.SaidClasses.{BareClass, bare_fields, bare_methods, bare_class, says_class, said_table}
use Rattle.java_text_laws.proofs.PlainBodies.{class_is_named}

composed : {A B C : Type 0} (f : B → C) (g : A → B) (xs : List A) → map f (map g xs) ≡ map (λ x. f (g x)) xs
composed f g [] = refl
composed f g (x ∷ xs) = ap (λ ys. f (g x) ∷ ys) (composed f g xs)

-- ---- no key stands twice

t_both : (a b : Bool) → T (a && b) → T a × T b
t_both true b h = (tt, h)
t_both false b h = absurd h

below_each : {X : Type 0} (k : Text) (es : List (Text × X)) → T (below_all text_cmp k es) → (j : ℕ) (y : Text) → slice_get (map (λ e. e.0) es) j ≡ Some y → T (is_lt (text_cmp k y))
below_each k [] below j y at = absurd cc
below_each k (e ∷ es) below zero y at = let same : e.0 ≡ y = cc in subst (λ q. T (is_lt (text_cmp k q))) same (t_both (is_lt (text_cmp k e.0)) (below_all text_cmp k es) below).0
below_each k (e ∷ es) below (suc j) y at = below_each k es (t_both (is_lt (text_cmp k e.0)) (below_all text_cmp k es) below).1 j y at

keys_differ : {X : Type 0} (es : List (Text × X)) → T (is_sorted text_cmp es) → (i j : ℕ) (x y : Text) → i < j → slice_get (map (λ e. e.0) es) i ≡ Some x → slice_get (map (λ e. e.0) es) j ≡ Some y
    → x ≡ y → ⊥
keys_differ [] sorted i j x y less at_i at_j same = cc
keys_differ (e ∷ es) sorted zero zero x y less at_i at_j same = omega arith
keys_differ (e ∷ es) sorted zero (suc j) x y less at_i at_j same =
    let first : e.0 ≡ x = cc in
    let below = below_each e.0 es (t_both (below_all text_cmp e.0 es) (is_sorted text_cmp es) sorted).0 j y at_j in
    subst (λ r. T (is_lt r)) (ap (λ q. text_cmp e.0 q) (sym same ∙ sym first) ∙ tied_itself text_total e.0) below
keys_differ (e ∷ es) sorted (suc i) zero x y less at_i at_j same = omega arith
keys_differ (e ∷ es) sorted (suc i) (suc j) x y less at_i at_j same =
    keys_differ es (t_both (below_all text_cmp e.0 es) (is_sorted text_cmp es) sorted).1 i j x y (omega arith) at_i at_j same

-- the names that are the keys of a map don't repeat
no_repeats : {X : Type 0} (m : TextMap X) (names : List Spot) → texts_of names ≡ map (λ e. e.0) (entries m) → (at : ℕ) → ¬ (Repeats names at)
no_repeats m names keys at r =
    keys_differ (entries m) (entries_sorted m) r.before r.number r.x.text r.y.text r.earlier (in_keys r.before r.x r.at_before) (in_keys r.number r.y r.at_number) r.same
  where
    in_keys : (i : ℕ) (x : Spot) → slice_get names i ≡ Some x → slice_get (map (λ e. e.0) (entries m)) i ≡ Some x.text
    in_keys i x got = ap (λ ks. slice_get ks i) (sym keys) ∙ slice_get-map (λ s. s.text) names i ∙ ap (option_map (λ s. s.text)) got

-- names of the same texts repeat alike
repeats_move : (xs ys : List Spot) → texts_of xs ≡ texts_of ys → (at : ℕ) → Repeats xs at → (there : ℕ) × Repeats ys there
repeats_move xs ys same at r =
    let first = moved r.before r.x r.at_before in
    let second = moved r.number r.y r.at_number in
    (second.0.at, record { before = r.before; number = r.number; earlier = r.earlier; x = first.0; y = second.0; at_before = first.1; at_number = second.1; same = first.2 ∙ r.same ∙ sym second.2; here = refl })
  where
    moved : (i : ℕ) (x : Spot) → slice_get xs i ≡ Some x → (y : Spot) × (slice_get ys i ≡ Some y) × (y.text ≡ x.text)
    moved i x got =
        let texts : option_map (λ s. s.text) (slice_get ys i) ≡ Some x.text =
        sym (slice_get-map (λ s. s.text) ys i) ∙ ap (λ ts. slice_get ts i) (sym same) ∙ slice_get-map (λ s. s.text) xs i ∙ ap (option_map (λ s. s.text)) got in
        mapped (λ s. s.text) (slice_get ys i) x.text texts

-- ---- the classes that are read

abbrev first_names : List Body → List Text
first_names [] = []
first_names (body ∷ bodies) = texts_of body.names

module _ (t : Table) (writable : IsWritable t) (classes : List Class) (same : map bare_class classes ≡ map says_class (entries t)) where
  -- the class of the table that a class read is
  record IsClassOf (c : Class) : Type 0 where
    entry : Text × ClassEntry
    there : Contains (entries t) entry
    says : says_class entry ≡ bare_class c

  class_of : (c : Class) → Contains classes c → IsClassOf c
  class_of c has =
      let found = mapped_from says_class (entries t) (bare_class c) (subst (λ bs. Contains bs (bare_class c)) same (mapped_within bare_class classes c has)) in
      record { entry = found.0; there = found.1; says = found.2 }

  class_keys : texts_of (map (λ c. c.name) classes) ≡ map (λ e. e.0) (entries t)
  class_keys = composed (λ x. x.text) (λ c. c.name) classes ∙ sym (composed (λ b. b.name) bare_class classes) ∙ ap (map (λ b. b.name)) same ∙ composed (λ b. b.name) says_class (entries t)

  field_keys : (c : Class) (of : IsClassOf c) → texts_of (map (λ f. f.name) c.fields) ≡ map (λ e. e.0) (entries of.entry.1.fields)
  field_keys c of =
      composed (λ x. x.text) (λ f. f.name) c.fields ∙ sym (composed (λ e. e.0) (λ f. (f.name.text, unplaced_field (field_entry f))) c.fields)
      ∙ ap (λ (b : BareClass). map (λ e. e.0) b.fields) (sym of.says) ∙ composed (λ e. e.0) (λ e. (e.0, unplaced_field e.1)) (entries of.entry.1.fields)

  method_keys : (c : Class) (of : IsClassOf c) → texts_of (map (λ m. m.name) c.methods) ≡ map (λ e. e.0) (entries of.entry.1.methods)
  method_keys c of =
      composed (λ x. x.text) (λ m. m.name) c.methods ∙ sym (composed (λ e. e.0) (λ m. (m.name.text, unplaced_method (method_entry m))) c.methods)
      ∙ ap (λ (b : BareClass). map (λ e. e.0) b.methods) (sym of.says) ∙ composed (λ e. e.0) (λ e. (e.0, unplaced_method e.1)) (entries of.entry.1.methods)

  -- the parameters of a method read are distinct
  no_repeated_parameter : (c : Class) (of : IsClassOf c) (m : Method) → Contains c.methods m → (at : ℕ) → ¬ (Repeats (map (λ p. p.name) m.parameters) at)
  no_repeated_parameter c of m has at r =
      let e = of.entry in
      let read = mapped_within (λ m. (m.name.text, unplaced_method (method_entry m))) c.methods m has in
      let found = mapped_from (λ e. (e.0, unplaced_method e.1)) (entries e.1.methods) (m.name.text, unplaced_method (method_entry m))
      (subst (λ (b : BareClass). Contains b.methods (m.name.text, unplaced_method (method_entry m))) (sym of.says) read) in
      let x = found.0 in
      let class_there = entry_found t e.0 e.1 of.there in
      let method_there = entry_found e.1.methods x.0 x.1 found.1 in
      let one = writable.flat e.0 x.0 e.1 x.1 class_there method_there in
      let body = one.0 in
      let bodies : map unplaced_body x.1.bodies ≡ unplaced_body (body_of m) ∷ [] = ap (λ (y : Text × MethodEntry). y.1.bodies) found.2 in
      let names : texts_of (map unplaced body.names) ≡ texts_of (map unplaced (map (λ p. p.name) m.parameters)) = ap first_names (ap (map unplaced_body) (sym one.1) ∙ bodies) in
      let texts : texts_of (map (λ p. p.name) m.parameters) ≡ texts_of body.names =
      sym (composed (λ x. x.text) unplaced (map (λ p. p.name) m.parameters)) ∙ sym names ∙ composed (λ x. x.text) unplaced body.names in
      let there = repeats_move (map (λ p. p.name) m.parameters) body.names texts at r in
      writable.distinct e.0 x.0 e.1 x.1 class_there method_there body (subst (λ bs. Contains bs body) (sym one.1) (0, omega arith, refl)) there.0 there.1

  no_fault : (fault : JavaFault) (at : ℕ) → ¬ (JavaFaultStands classes fault at)
  no_fault fault at (repeated_class _ r) = no_repeats t (map (λ c. c.name) classes) class_keys at r
  no_fault fault at (object_class c has is) =
      let of = class_of c has in
      let named : of.entry.0 ≡ codes "Object" = ap (λ (b : BareClass). b.name) of.says ∙ is in
      not_both of.entry.1 (get t (codes "Object")) writable.table.no_object (ap (get t) (sym named) ∙ entry_found t of.entry.0 of.entry.1 of.there)
  no_fault fault at (repeated_field c _ has r) = let of = class_of c has in no_repeats of.entry.1.fields (map (λ f. f.name) c.fields) (field_keys c of) at r
  no_fault fault at (repeated_method c _ has r) = let of = class_of c has in no_repeats of.entry.1.methods (map (λ m. m.name) c.methods) (method_keys c of) at r
  no_fault fault at (repeated_parameter c m _ has within r) = no_repeated_parameter c (class_of c has) m within at r

-- ---- the table that is read

-- the entry of a class but for places, by its bare class
abbrev entry_of_bare : BareClass → Text × ClassEntry
entry_of_bare b = (b.name, record { at = 0; parent = record { text = b.parent; at = 0 }; fields = from_entries b.fields; methods = from_entries b.methods })

abbrev with_members : Text → Text → TextMap FieldEntry → TextMap MethodEntry → Text × ClassEntry
with_members name parent fields methods = (name, record { at = 0; parent = record { text = parent; at = 0 }; fields = fields; methods = methods })

read_entry : (c : Class) → (c.name.text, unplaced_class (class_entry c)) ≡ entry_of_bare (bare_class c)
read_entry c =
    let name = c.name.text in
    let parent = (superclass_of c.name c.parent).text in
    let fields : map_values unplaced_field (class_entry c).fields ≡ from_entries (bare_fields c.fields) =
    changed_entries unplaced_field (map (λ f. (f.name.text, field_entry f)) c.fields)
    ∙ ap from_entries (composed (λ e. (e.0, unplaced_field e.1)) (λ f. (f.name.text, field_entry f)) c.fields) in
    let methods : map_values unplaced_method (class_entry c).methods ≡ from_entries (bare_methods c.methods) =
    changed_entries unplaced_method (map (λ m. (m.name.text, method_entry m)) c.methods)
    ∙ ap from_entries (composed (λ e. (e.0, unplaced_method e.1)) (λ m. (m.name.text, method_entry m)) c.methods) in
    ap (λ fs. with_members name parent fs (map_values unplaced_method (class_entry c).methods)) fields
    ∙ ap (λ ms. with_members name parent (from_entries (bare_fields c.fields)) ms) methods

read_entries : (classes : List Class) → map (λ c. (c.name.text, unplaced_class (class_entry c))) classes ≡ map entry_of_bare (map bare_class classes)
read_entries [] = refl
read_entries (c ∷ classes) = ap (λ e. e ∷ map (λ c. (c.name.text, unplaced_class (class_entry c))) classes) (read_entry c) ∙ ap (λ es. entry_of_bare (bare_class c) ∷ es) (read_entries classes)

same_table : (t : Table) (classes : List Class) → map bare_class classes ≡ map says_class (entries t) → SameTable (table_of classes) t
same_table t classes same =
    changed_entries unplaced_class (map (λ c. (c.name.text, class_entry c)) classes)
    ∙ ap from_entries (composed (λ e. (e.0, unplaced_class e.1)) (λ c. (c.name.text, class_entry c)) classes ∙ read_entries classes ∙ ap (map entry_of_bare) same
    ∙ composed entry_of_bare says_class (entries t))

-- ---- the law

-- the canonical text of a writable table is its Java text
pub is_its_text : (t : Table) → IsWritable t → IsJava (java_text t) t
is_its_text t writable =
    let said = said_table t (λ entry has. class_is_named t writable entry has) in
    let lexed = has_tokens said.bits said.apart in
    let it = said.reads 0 in
    let spelled : SpellsJava (symbols_of (text_of said.bits) lexed.tokens) it.0 = subst (λ s. SpellsJava s it.0) (sym lexed.symbols) it.1.0 in
    let read : ReadsAs (text_of said.bits) (table_of it.0) =
    record { tokens = lexed.tokens; lexed = lexed.list; classes = it.0; spelled = spelled; sound = no_fault t writable it.0 it.1.1; made = refl } in
    (table_of it.0, subst (λ bytes. ReadsAs bytes (table_of it.0)) said.writes read, same_table t it.0 it.1.1)
