-- Steps on a class, by what the table's calls need and make.
use Rattle.std.proofs.Common.{◌≡◌, Bool, true, false, List, [], ◌∷◌, ◌++◌, Option, None, Some, IsSome, refl, sym, ap, ◌∙◌, subst}
use Rattle.std.specs.Prelude.{IsTrue, IfSome, is_some, slice_get, unwrap_or}
use Rattle.dj_tree.specs.Plain.{plain_spot}
use Rattle.dj_tree.specs.declared.declarations.Spot as code_spot
use Rattle.std.specs.Bool.{if◌then◌else◌}
use Rattle.std.specs.Option.{option_map, option_and_then}
use Rattle.std.specs.FinMap.{get}
use Rattle.dj_names.specs.Texts.{Text}
use Rattle.dj_tree.specs.Trees.{Spot, Field, Method, adds_field, adds_method, modifies_method, removes_field, removes_method}
use Rattle.dj_calculus.specs.Maps.{with_at}
use Rattle.dj_calculus.specs.Things.{Step, extends, does}
use Rattle.dj_calculus.specs.Tables.{FieldEntry, MethodEntry, ClassEntry, Table}
use Rattle.dj_calculus.specs.Entries.{field_entry, method_entry, signature_of, body_of, same_signature, says_original}
use Rattle.dj_calculus.specs.Operations.{run, enter, leave, inside, modify, take_step}
use Rattle.dj_calculus.proofs.Members.{taken, mapped}
use Rattle.ifj_table.specs.Lookups.{own_field, own_method}
use Rattle.ifj_table.specs.Changes.{changed_at, with_parent, with_field, without_field, with_method, without_method, with_body, pushed_body}
use Rattle.dj_apply.specs.Taking.{CanTake, Takes}
use Rattle.dj_apply.proofs.Taking.{step_taken}

entered : {X : Type 0} (x : X) (o y : Option X) → enter x o ≡ Some y → o ≡ None
entered x None y e = refl
entered x (Some z) y e = absurd cc

left : {X : Type 0} (o y : Option X) → leave o ≡ Some y → (x : X) × (o ≡ Some x)
left None y e = absurd cc
left (Some x) y e = (x, refl)

went_inside : {X : Type 0} (change : X → Option X) (o y : Option X) → inside change o ≡ Some y → (x : X) × (o ≡ Some x) × ((z : X) × (change x ≡ Some z))
went_inside change None y e = absurd cc
went_inside change (Some x) y e = let made = mapped Some (change x) y e in (x, refl, (made.0, made.1))

same_if_modified : (m : Method) (old new : MethodEntry) (b : Bool) → same_signature old.signature (signature_of m) ≡ b → modify m old ≡ Some new → b ≡ true
same_if_modified m old new true e made = refl
same_if_modified m old new false e made = absurd (nothing (sym (ap (λ b. if b then Some (record { at = m.name.at; signature = signature_of m; bodies = (if says_original m.body then old.bodies else []) ++ body_of m ∷ [] }) else None) e) ∙ made))
  where
    nothing : ◌≡◌ {A = Option MethodEntry} None (Some new) → ⊥
    nothing p = absurd cc

abbrev some_class : ClassEntry → Option ClassEntry
some_class c = Some c

there : {X : Type 0} (o : Option X) (x : X) → o ≡ Some x → IsSome o
there o x e = ap is_some e

module _ (t : Table) (class : Text) where
  pub class_is_there : (steps : List Step) → CanTake t class steps → IsSome (get t class)
  class_is_there steps can = there (get t class) can.old can.there

  field_of : (f : Text) (old : ClassEntry) → get t class ≡ Some old → own_field t class f ≡ get old.fields f
  field_of f old is = ap (option_and_then (λ (c : ClassEntry). get c.fields f)) is

  method_of : (m : Text) (old : ClassEntry) → get t class ≡ Some old → own_method t class m ≡ get old.methods m
  method_of m old is = ap (option_and_then (λ (c : ClassEntry). get c.methods m)) is

  -- what the one step changed
  changed : (step : Step) (can : CanTake t class (step ∷ [])) → (made : ClassEntry) × (take_step step can.old ≡ Some made)
  changed step can = let first = taken (run take_step []) (take_step step can.old) can.new can.taken in (first.0, first.1)

  -- ---- fields

  pub field_absent : (f : Field) → CanTake t class (does (adds_field f) ∷ []) → own_field t class f.name.text ≡ None
  field_absent f can =
      let made = changed (does (adds_field f)) can in
      let held = mapped (λ (h : Option FieldEntry). record can.old { fields = with_at can.old.fields f.name.text h }) (enter (field_entry f) (get can.old.fields f.name.text)) made.0 made.1 in
      field_of f.name.text can.old can.there ∙ entered (field_entry f) (get can.old.fields f.name.text) held.0 held.1

  pub field_added : (u : Table) (f : Field) → CanTake t class (does (adds_field f) ∷ []) → u ≡ changed_at t class (with_field f.name.text (field_entry f)) → Takes t u class (does (adds_field f) ∷ [])
  field_added u f can is =
      step_taken t u class (does (adds_field f)) can.old (with_field f.name.text (field_entry f)) can.there
      (ap (λ o. option_map (λ (h : Option FieldEntry). record can.old { fields = with_at can.old.fields f.name.text h }) (enter (field_entry f) o)) (sym (field_of f.name.text can.old can.there) ∙ field_absent f can)) is

  pub field_is_there : (f : Spot) → CanTake t class (does (removes_field f) ∷ []) → IsSome (own_field t class f.text)
  field_is_there f can =
      let made = changed (does (removes_field f)) can in
      let held = mapped (λ (h : Option FieldEntry). record can.old { fields = with_at can.old.fields f.text h }) (leave (get can.old.fields f.text)) made.0 made.1 in
      let old = left (get can.old.fields f.text) held.0 held.1 in
      there (own_field t class f.text) old.0 (field_of f.text can.old can.there ∙ old.1)

  pub field_removed : (u : Table) (f : Spot) → CanTake t class (does (removes_field f) ∷ []) → u ≡ changed_at t class (without_field f.text) → Takes t u class (does (removes_field f) ∷ [])
  field_removed u f can is =
      let made = changed (does (removes_field f)) can in
      let held = mapped (λ (h : Option FieldEntry). record can.old { fields = with_at can.old.fields f.text h }) (leave (get can.old.fields f.text)) made.0 made.1 in
      let old = left (get can.old.fields f.text) held.0 held.1 in
      step_taken t u class (does (removes_field f)) can.old (without_field f.text) can.there
      (ap (λ o. option_map (λ (h : Option FieldEntry). record can.old { fields = with_at can.old.fields f.text h }) (leave o)) old.1) is

  -- ---- methods

  pub method_absent : (m : Method) → CanTake t class (does (adds_method m) ∷ []) → own_method t class m.name.text ≡ None
  method_absent m can =
      let made = changed (does (adds_method m)) can in
      let held = mapped (λ (h : Option MethodEntry). record can.old { methods = with_at can.old.methods m.name.text h }) (enter (method_entry m) (get can.old.methods m.name.text)) made.0 made.1 in
      method_of m.name.text can.old can.there ∙ entered (method_entry m) (get can.old.methods m.name.text) held.0 held.1

  pub method_added : (u : Table) (m : Method) → CanTake t class (does (adds_method m) ∷ []) → u ≡ changed_at t class (with_method m.name.text (method_entry m)) → Takes t u class (does (adds_method m) ∷ [])
  method_added u m can is =
      step_taken t u class (does (adds_method m)) can.old (with_method m.name.text (method_entry m)) can.there
      (ap (λ o. option_map (λ (h : Option MethodEntry). record can.old { methods = with_at can.old.methods m.name.text h }) (enter (method_entry m) o)) (sym (method_of m.name.text can.old can.there) ∙ method_absent m can)) is

  pub method_is_there : (m : Spot) → CanTake t class (does (removes_method m) ∷ []) → IsSome (own_method t class m.text)
  method_is_there m can =
      let made = changed (does (removes_method m)) can in
      let held = mapped (λ (h : Option MethodEntry). record can.old { methods = with_at can.old.methods m.text h }) (leave (get can.old.methods m.text)) made.0 made.1 in
      let old = left (get can.old.methods m.text) held.0 held.1 in
      there (own_method t class m.text) old.0 (method_of m.text can.old can.there ∙ old.1)

  pub method_removed : (u : Table) (m : Spot) → CanTake t class (does (removes_method m) ∷ []) → u ≡ changed_at t class (without_method m.text) → Takes t u class (does (removes_method m) ∷ [])
  method_removed u m can is =
      let made = changed (does (removes_method m)) can in
      let held = mapped (λ (h : Option MethodEntry). record can.old { methods = with_at can.old.methods m.text h }) (leave (get can.old.methods m.text)) made.0 made.1 in
      let old = left (get can.old.methods m.text) held.0 held.1 in
      step_taken t u class (does (removes_method m)) can.old (without_method m.text) can.there
      (ap (λ o. option_map (λ (h : Option MethodEntry). record can.old { methods = with_at can.old.methods m.text h }) (leave o)) old.1) is

  -- the method that is modified, of the same signature
  abbrev pub Modified : (m : Method) → ClassEntry → Type 0
  Modified m old = (was : MethodEntry) × (get old.methods m.name.text ≡ Some was) × IsTrue (same_signature was.signature (signature_of m))

  pub method_modified : (m : Method) (can : CanTake t class (does (modifies_method m) ∷ [])) → Modified m can.old
  method_modified m can =
      let made = changed (does (modifies_method m)) can in
      let held = mapped (λ (h : Option MethodEntry). record can.old { methods = with_at can.old.methods m.name.text h }) (inside (modify m) (get can.old.methods m.name.text)) made.0 made.1 in
      let was = went_inside (modify m) (get can.old.methods m.name.text) held.0 held.1 in
      (was.0, was.1, same_if_modified m was.0 was.2.0 _ refl was.2.1)

  pub modified_is_there : (m : Method) → CanTake t class (does (modifies_method m) ∷ []) → IsSome (own_method t class m.name.text)
  modified_is_there m can = let was = method_modified m can in there (own_method t class m.name.text) was.0 (method_of m.name.text can.old can.there ∙ was.1)

  pub modified_is_same : (m : Method) → CanTake t class (does (modifies_method m) ∷ []) → IfSome (own_method t class m.name.text) (λ old. IsTrue (same_signature old.signature (signature_of m)))
  modified_is_same m can =
      let was = method_modified m can in
      subst (λ o. IfSome o (λ (old : MethodEntry). IsTrue (same_signature old.signature (signature_of m)))) (sym (method_of m.name.text can.old can.there ∙ was.1)) was.2

  made_of : (m : Method) (was : MethodEntry) (b : Bool) → IsTrue (same_signature was.signature (signature_of m)) → says_original m.body ≡ b
      → modify m was ≡ Some (record { at = m.name.at; signature = signature_of m; bodies = (if b then was.bodies else []) ++ body_of m ∷ [] })
  made_of m was b same says =
      ap (λ x. if x then Some (record { at = m.name.at; signature = signature_of m; bodies = (if says_original m.body then was.bodies else []) ++ body_of m ∷ [] }) else None) same
      ∙ ap (λ x. Some (record { at = m.name.at; signature = signature_of m; bodies = (if x then was.bodies else []) ++ body_of m ∷ [] })) says

  pub body_pushed : (u : Table) (m : Method) → CanTake t class (does (modifies_method m) ∷ []) → says_original m.body ≡ true → u ≡ changed_at t class (with_body m) → Takes t u class (does (modifies_method m) ∷ [])
  body_pushed u m can says is =
      let was = method_modified m can in
      step_taken t u class (does (modifies_method m)) can.old (with_body m) can.there
      (ap (λ o. option_map (λ (h : Option MethodEntry). record can.old { methods = with_at can.old.methods m.name.text h }) (inside (modify m) o)) was.1
      ∙ ap (λ o. option_map (λ (h : Option MethodEntry). record can.old { methods = with_at can.old.methods m.name.text h }) (option_map Some o)) (made_of m was.0 true was.2 says)
      ∙ sym (ap (λ o. some_class (record can.old { methods = with_at can.old.methods m.name.text (option_map (pushed_body m) o) })) was.1)) is

  pub body_put : (u : Table) (m : Method) → CanTake t class (does (modifies_method m) ∷ []) → says_original m.body ≡ false → u ≡ changed_at t class (with_method m.name.text (method_entry m)) → Takes t u class (does (modifies_method m) ∷ [])
  body_put u m can says is =
      let was = method_modified m can in
      step_taken t u class (does (modifies_method m)) can.old (with_method m.name.text (method_entry m)) can.there
      (ap (λ o. option_map (λ (h : Option MethodEntry). record can.old { methods = with_at can.old.methods m.name.text h }) (inside (modify m) o)) was.1
      ∙ ap (λ o. option_map (λ (h : Option MethodEntry). record can.old { methods = with_at can.old.methods m.name.text h }) (option_map Some o)) (made_of m was.0 false was.2 says)) is

  -- ---- the superclass

  pub parent_set : (u : Table) (parent : Spot) → IsSome (get t class) → u ≡ changed_at t class (with_parent parent) → Takes t u class (extends parent ∷ [])
  parent_set u parent some is = let old = value_of (get t class) some in step_taken t u class (extends parent) old.0 (with_parent parent) old.1 refl is
    where
      value_of : {X : Type 0} (o : Option X) → IsSome o → (x : X) × (o ≡ Some x)
      value_of None e = absurd cc
      value_of (Some x) e = (x, refl)

  -- ---- the same, over names that were read

  pub field_written : (v u : Table) (f : Field) (name kind : Text) → v ≡ t → f.name.text ≡ name → f.kind.text ≡ kind → CanTake t class (does (adds_field f) ∷ [])
      → u ≡ changed_at v class (with_field name (record { at = f.name.at; kind = record { text = kind; at = f.kind.at } })) → Takes t u class (does (adds_field f) ∷ [])
  field_written v u f name kind same name_is kind_is can is =
      field_added u f can
      (is ∙ ap (λ w. changed_at w class (with_field name (record { at = f.name.at; kind = record { text = kind; at = f.kind.at } }))) same
      ∙ ap (λ x. changed_at t class (with_field x (record { at = f.name.at; kind = record { text = kind; at = f.kind.at } }))) (sym name_is)
      ∙ ap (λ x. changed_at t class (with_field f.name.text (record { at = f.name.at; kind = record { text = x; at = f.kind.at } }))) (sym kind_is))

  pub field_cut : (u : Table) (f : Spot) (name : Text) → f.text ≡ name → CanTake t class (does (removes_field f) ∷ []) → u ≡ changed_at t class (without_field name) → Takes t u class (does (removes_field f) ∷ [])
  field_cut u f name name_is can is = field_removed u f can (is ∙ ap (λ x. changed_at t class (without_field x)) (sym name_is))

  pub method_cut : (u : Table) (m : Spot) (name : Text) → m.text ≡ name → CanTake t class (does (removes_method m) ∷ []) → u ≡ changed_at t class (without_method name) → Takes t u class (does (removes_method m) ∷ [])
  method_cut u m name name_is can is = method_removed u m can (is ∙ ap (λ x. changed_at t class (without_method x)) (sym name_is))

  pub parent_written : (v u : Table) (parent : Spot) (name : Text) → v ≡ t → parent.text ≡ name → IsSome (get t class) → u ≡ changed_at v class (with_parent (record { text = name; at = parent.at })) → Takes t u class (extends parent ∷ [])
  parent_written v u parent name same name_is some is =
      parent_set u parent some (is ∙ ap (λ w. changed_at w class (with_parent (record { text = name; at = parent.at }))) same ∙ ap (λ x. changed_at t class (with_parent (record { text = x; at = parent.at }))) (sym name_is))

-- the text of a name that was read
pub text_read : (names : List Text) (spot : code_spot.Spot) (text : Text) → slice_get names spot.name.0 ≡ Some text → (plain_spot names spot).text ≡ text
text_read names spot text is = ap (λ o. unwrap_or o []) is
