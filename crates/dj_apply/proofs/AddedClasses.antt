-- A class that is added: entering its members one by one, in their order, makes its entry.
use Rattle.std.proofs.Common.{◌≡◌, Bool, true, false, cond, List, [], ◌∷◌, ◌++◌, map, Option, None, Some, Contains, refl, sym, ap, ◌∙◌, subst, arith}
use Rattle.std.specs.Option.{option_map, option_and_then}
use Rattle.std.specs.List.{filter_map}
use Rattle.std.specs.FinMap.{get, insert, empty, find, from_entries, get-from_entries, same_map}
use Rattle.std.specs.Ordering.{eq_by_cmp}
use Rattle.std.proofs.lemmas.List.{map-append}
use Rattle.dj_names.specs.Texts.{Text}
use Rattle.dj_tree.specs.Trees.{Spot, Field, Method, MemberOperation, adds_field, adds_method, Class, adds_class}
use Rattle.dj_calculus.specs.Maps.{text_cmp, TextMap, with_at}
use Rattle.dj_calculus.specs.Contents.{field_name, method_name}
use Rattle.dj_calculus.specs.Things.{does}
use Rattle.dj_calculus.specs.Tables.{FieldEntry, MethodEntry, ClassEntry}
use Rattle.dj_calculus.specs.Entries.{field_entry, method_entry, class_entry, superclass_of}
use Rattle.dj_calculus.specs.Operations.{run, enter, take_step}
use Rattle.dj_calculus.proofs.MapLemmas.{text_total, text_antisymmetric, text_get-empty, text_get-insert, same_key}
use Rattle.dj_calculus.proofs.Members.{StandOnce, later_once, first_apart, among_others, mapped_within}
use Rattle.dj_calculus.proofs.GoodLemmas.{run_append}
use Rattle.dj_calculus.proofs.OperationLemmas.{get_elsewhere}
use Rattle.dj_source_laws.specs.Once.{members_in}
use Rattle.ifj_table.specs.Changes.{bare_class}

-- ---- entering elements with names of their own

abbrev or_else : {X : Type 0} → Option X → Option X → Option X
or_else None o = o
or_else (Some x) o = Some x

module _ {E X : Type 0} (name : E → Spot) (read : E → X) where
  abbrev enter_one : E → TextMap X → Option (TextMap X)
  enter_one e m = option_map (λ held. with_at m (name e).text held) (enter (read e) (get m (name e).text))

  abbrev pairs : List E → List (Text × X)
  pairs es = map (λ e. ((name e).text, read e)) es

  skipped : (b : Bool) (k q : Text) (x : X) (o : Option X) → eq_by_cmp text_cmp q k ≡ b → ¬ (q ≡ k) → o ≡ None → cond b (Some x) o ≡ None
  skipped true k q x o e apart none = absurd (apart (same_key q k e))
  skipped false k q x o e apart none = none

  absent : (es : List E) (q : Text) → ((e : E) → Contains es e → ¬ (q ≡ (name e).text)) → find text_cmp q (pairs es) ≡ None
  absent [] q apart = refl
  absent (e ∷ es) q apart =
      skipped (eq_by_cmp text_cmp q (name e).text) (name e).text q (read e) (find text_cmp q (pairs es)) refl (apart e (0, omega arith, refl)) (absent es q (λ f within. apart f (among_others e f es within)))

  swapped : (b : Bool) (x : X) (o p : Option X) → (b ≡ true → o ≡ None) → or_else o (cond b (Some x) p) ≡ or_else (cond b (Some x) o) p
  swapped true x None p none = refl
  swapped true x (Some y) p none = absurd (not_none (none refl))
    where
      not_none : ◌≡◌ {A = Option X} (Some y) None → ⊥
      not_none e = absurd cc
  swapped false x o p none = refl

  abbrev Entered : List E → TextMap X → Type 0
  Entered es m = (m' : TextMap X) × (run enter_one es m ≡ Some m') × ((q : Text) → get m' q ≡ or_else (find text_cmp q (pairs es)) (get m q))

  entered : (es : List E) (m : TextMap X) → StandOnce (map name es) → ((e : E) → Contains es e → get m (name e).text ≡ None) → Entered es m
  entered [] m once none = (m, refl, λ q. refl)
  entered (e ∷ es) m once none =
      let apart = λ (f : E) (within : Contains es f). first_apart (name e) (name f) (map name es) once (mapped_within name es f within) in
      let here : enter_one e m ≡ Some (insert m (name e).text (read e)) = ap (λ o. option_map (λ held. with_at m (name e).text held) (enter (read e) o)) (none e (0, omega arith, refl)) in
      let rest = entered es (insert m (name e).text (read e)) (later_once (name e) (map name es) once)
      (λ f within. get_elsewhere m (name e).text (name f).text (Some (read e)) (apart f within) ∙ none f (among_others e f es within)) in (
        rest.0,
        ap (option_and_then (run enter_one es)) here ∙ rest.1,
        λ q. rest.2 q ∙ ap (or_else (find text_cmp q (pairs es))) (text_get-insert X m (name e).text (read e) q)
            ∙ swapped (eq_by_cmp text_cmp q (name e).text) (read e) (find text_cmp q (pairs es)) (get m q) (λ same. absent es q (λ f within is. apart f within (sym (same_key q (name e).text same) ∙ is))),
      )

  or_none : (o : Option X) → or_else o None ≡ o
  or_none None = refl
  or_none (Some x) = refl

  -- all of them, from the empty map on
  pub all_entered : (es : List E) → StandOnce (map name es) → run enter_one es empty ≡ Some (from_entries (pairs es))
  all_entered es once =
      let done = entered es empty once (λ e within. text_get-empty X (name e).text) in
      done.1 ∙ ap Some (same_map text_total text_antisymmetric done.0 (from_entries (pairs es))
      (λ q. done.2 q ∙ ap (or_else (find text_cmp q (pairs es))) (text_get-empty X q) ∙ or_none (find text_cmp q (pairs es)) ∙ sym (get-from_entries text_total (pairs es) q)))

-- ---- fields and methods of a class

after_fields : (fs : List Field) (c : ClassEntry) (o : Option (Option FieldEntry)) (f : Field)
    → ((m : TextMap FieldEntry) → run take_step (map does (map adds_field fs)) (record c { fields = m }) ≡ option_map (λ (n : TextMap FieldEntry). record c { fields = n }) (run (enter_one (λ (f : Field). f.name) field_entry) fs m))
    → option_and_then (run take_step (map does (map adds_field fs))) (option_map (λ (held : Option FieldEntry). record c { fields = with_at c.fields f.name.text held }) o)
    ≡ option_map (λ (n : TextMap FieldEntry). record c { fields = n }) (option_and_then (run (enter_one (λ (f : Field). f.name) field_entry) fs) (option_map (λ (held : Option FieldEntry). with_at c.fields f.name.text held) o))
after_fields fs c None f rest = refl
after_fields fs c (Some held) f rest = rest (with_at c.fields f.name.text held)

fields_taken : (fs : List Field) (c : ClassEntry) → run take_step (map does (map adds_field fs)) c ≡ option_map (λ (n : TextMap FieldEntry). record c { fields = n }) (run (enter_one (λ (f : Field). f.name) field_entry) fs c.fields)
fields_taken [] c = refl
fields_taken (f ∷ fs) c = after_fields fs c (enter (field_entry f) (get c.fields f.name.text)) f (λ m. fields_taken fs (record c { fields = m }))

after_methods : (ms : List Method) (c : ClassEntry) (o : Option (Option MethodEntry)) (m : Method)
    → ((n : TextMap MethodEntry) → run take_step (map does (map adds_method ms)) (record c { methods = n }) ≡ option_map (λ (n : TextMap MethodEntry). record c { methods = n }) (run (enter_one (λ (m : Method). m.name) method_entry) ms n))
    → option_and_then (run take_step (map does (map adds_method ms))) (option_map (λ (held : Option MethodEntry). record c { methods = with_at c.methods m.name.text held }) o)
    ≡ option_map (λ (n : TextMap MethodEntry). record c { methods = n }) (option_and_then (run (enter_one (λ (m : Method). m.name) method_entry) ms) (option_map (λ (held : Option MethodEntry). with_at c.methods m.name.text held) o))
after_methods ms c None m rest = refl
after_methods ms c (Some held) m rest = rest (with_at c.methods m.name.text held)

methods_taken : (ms : List Method) (c : ClassEntry) → run take_step (map does (map adds_method ms)) c ≡ option_map (λ (n : TextMap MethodEntry). record c { methods = n }) (run (enter_one (λ (m : Method). m.name) method_entry) ms c.methods)
methods_taken [] c = refl
methods_taken (m ∷ ms) c = after_methods ms c (enter (method_entry m) (get c.methods m.name.text)) m (λ n. methods_taken ms (record c { methods = n }))

-- ---- names of members

no_fields : (ms : List Method) → filter_map field_name (map adds_method ms) ≡ []
no_fields [] = refl
no_fields (m ∷ ms) = no_fields ms

pub no_methods : (fs : List Field) (ms : List MemberOperation) → filter_map method_name (map adds_field fs ++ ms) ≡ filter_map method_name ms
no_methods [] ms = refl
no_methods (f ∷ fs) ms = no_methods fs ms

pub field_names : (fs : List Field) (ms : List Method) → filter_map field_name (map adds_field fs ++ map adds_method ms) ≡ map (λ (f : Field). f.name) fs
field_names [] ms = no_fields ms
field_names (f ∷ fs) ms = ap (λ names. f.name ∷ names) (field_names fs ms)

pub own_names : (ms : List Method) → filter_map method_name (map adds_method ms) ≡ map (λ (m : Method). m.name) ms
own_names [] = refl
own_names (m ∷ ms) = ap (λ names. m.name ∷ names) (own_names ms)

pub class_fields_once : (c : Class) → StandOnce (filter_map field_name (members_in (adds_class c))) → StandOnce (map (λ (f : Field). f.name) c.fields)
class_fields_once c once = subst StandOnce (field_names c.fields c.methods) once

pub class_methods_once : (c : Class) → StandOnce (filter_map method_name (members_in (adds_class c))) → StandOnce (map (λ (m : Method). m.name) c.methods)
class_methods_once c once = subst StandOnce (no_methods c.fields (map adds_method c.methods) ∙ own_names c.methods) once

-- ---- the class

abbrev bare_of : Class → ClassEntry
bare_of c = bare_class c.name.at (superclass_of c.name c.parent)

pub class_made : (c : Class) → StandOnce (filter_map field_name (members_in (adds_class c))) → StandOnce (filter_map method_name (members_in (adds_class c)))
    → run take_step (map does (members_in (adds_class c))) (bare_of c) ≡ Some (class_entry c)
class_made c fields methods =
    let with_fields : ClassEntry = record (bare_of c) { fields = from_entries (pairs (λ (f : Field). f.name) field_entry c.fields) } in
    ap (λ steps. run take_step steps (bare_of c)) (map-append does (map adds_field c.fields) (map adds_method c.methods))
    ∙ run_append take_step (map does (map adds_field c.fields)) (map does (map adds_method c.methods)) (bare_of c)
    ∙ ap (option_and_then (run take_step (map does (map adds_method c.methods))))
    (fields_taken c.fields (bare_of c) ∙ ap (option_map (λ (n : TextMap FieldEntry). record (bare_of c) { fields = n })) (all_entered (λ (f : Field). f.name) field_entry c.fields (class_fields_once c fields)))
    ∙ methods_taken c.methods with_fields
    ∙ ap (option_map (λ (n : TextMap MethodEntry). record with_fields { methods = n })) (all_entered (λ (m : Method). m.name) method_entry c.methods (class_methods_once c methods))
