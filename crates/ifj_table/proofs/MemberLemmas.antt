-- A class of a table with its members changed.
use Rattle.std.proofs.Common.{◌≡◌, ◌≢◌, ℕ, suc, ◌<◌, Bool, true, false, ◌&&◌, List, [], ◌∷◌, ◌++◌, length-append, map, set, Option, Some, None, slice_get, get_or, Ok, Err, refl, sym, ap, ap₂, ◌∙◌, subst, arith}
use Rattle.std.specs.Prelude.{All, IsSome, IfSome, OnOk, OnErr, IsTrue, length}
use Rattle.std.specs.List.{insert, remove}
use Rattle.std.specs.Str.{bytes_eq}
use Rattle.std.specs.Option.{option_and_then}
use Rattle.std.specs.FinMap as finite
use Rattle.std.specs.FinMap.{get, from_entries}
use Rattle.std.specs.declared.result.Result.{Result}
use Rattle.dj_names.specs.Texts.{Text}
use Rattle.dj_tree.specs.WellFormed.{IsKnown}
use Rattle.dj_tree.specs.declared.declarations.Spot.{Spot}
use Rattle.dj_tree.specs.declared.expression.ExprNode.{ExprNode}
use Rattle.dj_calculus.specs.Subclasses.{object}
use Rattle.ifj_table.specs.Sorted.{AreRising, IsGap}
use Rattle.ifj_table.specs.Entries.{text_at, plain_field, plain_body, plain_method, fields_of, methods_of, plain_class, classes_of}
use Rattle.dj_calculus.specs.Entries.{signature_of, body_of, same_types, same_signature}
use Rattle.dj_calculus.specs.Tables as calculus
use Rattle.ifj_table.specs.Redeclared.{IsRedeclaredAmong, AreSameMethods}
use Rattle.ifj_table.specs.Changes.{pushed_body}
use Rattle.ifj_table.specs.declared.entry.Body.{Body}
use Rattle.dj_tree.specs.Trees as plain
use Rattle.dj_tree.specs.Trees.{Method}
use Rattle.dj_tree.specs.Plain.{plain_spot}
use Rattle.ifj_table.specs.Held.{IsBody, IsFieldEntry, IsMethodEntry, IsClassEntry, AreClasses}
use Rattle.ifj_table.specs.declared.entry.FieldEntry.{FieldEntry}
use Rattle.ifj_table.specs.declared.entry.MethodEntry.{MethodEntry}
use Rattle.ifj_table.specs.declared.entry.ClassEntry.{ClassEntry}
use Rattle.std.proofs.lemmas.List.{length-map, map-append}
use Rattle.std.proofs.lemmas.List.Elements.{All-set, All-push}
use Rattle.dj_calculus.proofs.Members.{same_some}
use Rattle.ifj_table.proofs.EntryMaps.{element_at, set_same_key, got, inserted, set_at, keys_set, removed, got_at, none_there, entry_there, keys_inserted, keys_removed, all_inserted, all_removed}
use Rattle.ifj_table.proofs.TableLemmas.{class_key, class_read, place_within, element_is, all_at}

abbrev pub field_key : List Text → FieldEntry → Text
field_key names f = text_at names f.spot

abbrev pub method_key : List Text → MethodEntry → Text
method_key names m = text_at names m.spot

-- ---- answers

pub if_some : {X : Type 0} (P : X → Type 0) (o : Option X) (x : X) → o ≡ Some x → IfSome o P → P x
if_some P None x e h = absurd cc
if_some P (Some y) x e h = let same : y ≡ x = cc in subst P same h

-- what a step after an option says, where the option has something
pub behind : {X Y : Type 0} (f : X → Option Y) (o : Option X) (x : X) → o ≡ Some x → option_and_then f o ≡ f x
behind f None x e = absurd cc
behind f (Some y) x e = let same : y ≡ x = cc in ap f same

-- what an option that has something has
pub some_value : {X : Type 0} (o : Option X) → IsSome o → (x : X) × (o ≡ Some x)
some_value None e = absurd cc
some_value (Some x) e = (x, refl)

pub either_way : {A B : Type 0} {P Q R : Type 0} (r : Result A B) → OnOk r P → OnErr r Q → (P → R) → (Q → R) → R
either_way (Ok a) p q f g = f p
either_way (Err b) p q f g = g q

pub on_ok : {A B : Type 0} {P Q : Type 0} (r : Result A B) → OnOk r P → (P → Q) → OnOk r Q
on_ok (Ok a) p f = f p
on_ok (Err b) p f = p

pub on_err : {A B : Type 0} {P Q : Type 0} (r : Result A B) → OnErr r P → (P → Q) → OnErr r Q
on_err (Ok a) p f = p
on_err (Err b) p f = f p

pub err_any : {A B : Type 0} {P : Type 0} (r : Result A B) → P → OnErr r P
err_any (Ok a) p = tt
err_any (Err b) p = p

-- ---- the class

module _ (names : List Text) (exprs : List ExprNode) (classes : List ClassEntry) (held : AreClasses names exprs classes) (at : ℕ) (k : Text) (old : ClassEntry)
    (here : slice_get (map (class_key names) classes) at ≡ Some k) (is : old ≡ get_or classes at old) where
  pub stands : slice_get classes at ≡ Some old
  stands = element_is classes at old (place_within (class_key names) classes at k here) is

  pub is_class : IsClassEntry names exprs old
  is_class = all_at (IsClassEntry names exprs) classes at old held.each stands

  pub reads : get (classes_of names exprs classes) k ≡ Some (plain_class names exprs old)
  reads = class_read names exprs classes held at k old here is

-- ---- its members

module _ (names : List Text) (exprs : List ExprNode) (c new : ClassEntry) (is : IsClassEntry names exprs c) (spot : new.spot ≡ c.spot) (parent : new.parent ≡ c.parent) where
  -- a class with other fields
  pub with_fields : (fields : List FieldEntry) → new.fields.items ≡ fields → new.methods.items ≡ c.methods.items → All (IsFieldEntry names) fields → AreRising (map (field_key names) fields)
      → IsClassEntry names exprs new
  with_fields fields fs ms all rising = record {
    spot = subst (IsKnown names) (sym spot) is.spot;
    parent = subst (IsKnown names) (sym parent) is.parent;
    declarable = ap (λ (s : Spot). bytes_eq (text_at names s) object) spot ∙ is.declarable;
    fields = subst (All (IsFieldEntry names)) (sym fs) all;
    rising_fields = subst (λ es. AreRising (map (field_key names) es)) (sym fs) rising;
    methods = subst (All (IsMethodEntry names exprs)) (sym ms) is.methods;
    rising_methods = subst (λ es. AreRising (map (method_key names) es)) (sym ms) is.rising_methods;
  }

  -- and with other methods
  pub with_methods : (methods : List MethodEntry) → new.fields.items ≡ c.fields.items → new.methods.items ≡ methods → All (IsMethodEntry names exprs) methods → AreRising (map (method_key names) methods)
      → IsClassEntry names exprs new
  with_methods methods fs ms all rising = record {
    spot = subst (IsKnown names) (sym spot) is.spot;
    parent = subst (IsKnown names) (sym parent) is.parent;
    declarable = ap (λ (s : Spot). bytes_eq (text_at names s) object) spot ∙ is.declarable;
    fields = subst (All (IsFieldEntry names)) (sym fs) is.fields;
    rising_fields = subst (λ es. AreRising (map (field_key names) es)) (sym fs) is.rising_fields;
    methods = subst (All (IsMethodEntry names exprs)) (sym ms) all;
    rising_methods = subst (λ es. AreRising (map (method_key names) es)) (sym ms) rising;
  }

-- ---- methods of equal parts

pub method_is : (names : List Text) (exprs : List ExprNode) (old new : MethodEntry) → IsMethodEntry names exprs old → new.result ≡ old.result → new.spot ≡ old.spot → new.parameters ≡ old.parameters → new.bodies.items ≡ old.bodies.items
    → IsMethodEntry names exprs new
method_is names exprs old new is result spot types bodies = record {
  spot = subst (IsKnown names) (sym spot) is.spot;
  result = subst (IsKnown names) (sym result) is.result;
  parameters = subst (All (IsKnown names)) (sym types) is.parameters;
  some = omega (arith, is.some, ap length bodies);
  bodies = subst (λ ps. All (IsBody names exprs (length ps)) new.bodies.items) (sym types) (subst (All (IsBody names exprs (length old.parameters))) (sym bodies) is.bodies);
}

plain_is : (names : List Text) (exprs : List ExprNode) (new : MethodEntry) (result spot : Spot) (types : List Spot) (bodies : List Body) → new.result ≡ result → new.spot ≡ spot → new.parameters ≡ types → new.bodies.items ≡ bodies
    → plain_method names exprs new
    ≡ record { at = spot.at; signature = record { parameters = map (plain_spot names) types; result = plain_spot names result }; bodies = map (plain_body names exprs) bodies }
plain_is names exprs new result spot types bodies result_is spot_is types_are bodies_are =
    ap₂ (λ (at : ℕ) signature. record { at = at; signature = signature; bodies = map (plain_body names exprs) new.bodies.items }) (ap (λ (x : Spot). x.at) spot_is)
    (ap₂ (λ ps r. record { parameters = map (plain_spot names) ps; result = plain_spot names r }) types_are result_is)
    ∙ ap (λ bs. record { at = spot.at; signature = record { parameters = map (plain_spot names) types; result = plain_spot names result }; bodies = map (plain_body names exprs) bs }) bodies_are

plain_same : (names : List Text) (exprs : List ExprNode) (old new : MethodEntry) → new.result ≡ old.result → new.spot ≡ old.spot → new.parameters ≡ old.parameters → new.bodies.items ≡ old.bodies.items
    → plain_method names exprs new ≡ plain_method names exprs old
plain_same names exprs old new result spot types bodies = plain_is names exprs new old.result old.spot old.parameters old.bodies.items result spot types bodies

first_true : (a b : Bool) → (a && b) ≡ true → a ≡ true
first_true true b e = refl
first_true false b e = absurd cc

second_true : (a b : Bool) → (a && b) ≡ true → b ≡ true
second_true true b e = e
second_true false b e = absurd cc

-- lists of the same types are equally long
same_length : (xs ys : List plain.Spot) → same_types xs ys ≡ true → length xs ≡ length ys
same_length [] [] e = refl
same_length [] (y ∷ ys) e = absurd cc
same_length (x ∷ xs) [] e = absurd cc
same_length (x ∷ xs) (y ∷ ys) e = ap suc (same_length xs ys (second_true (bytes_eq x.text y.text) (same_types xs ys) e))

-- ---- fields

module _ (names : List Text) (exprs : List ExprNode) (c : ClassEntry) (is : IsClassEntry names exprs c) where
  pub field_absent : (f : Text) (at : ℕ) → get (fields_of names c.fields.items) f ≡ None → ¬ (slice_get (map (field_key names) c.fields.items) at ≡ Some f)
  field_absent f at none here = none_there (field_key names) (plain_field names) c.fields.items f at is.rising_fields none here

  pub field_there : (f : Text) → IsSome (get (fields_of names c.fields.items) f) → (at : ℕ) × (slice_get (map (field_key names) c.fields.items) at ≡ Some f)
  field_there f some = entry_there (field_key names) (plain_field names) c.fields.items f some

  -- one field more
  pub more_fields : (at : ℕ) (f : FieldEntry) → IsFieldEntry names f → IsGap (map (field_key names) c.fields.items) (field_key names f) at
      → All (IsFieldEntry names) (insert c.fields.items at f) × AreRising (map (field_key names) (insert c.fields.items at f))
  more_fields at f known gap = (all_inserted (IsFieldEntry names) c.fields.items at f is.fields known, keys_inserted (field_key names) c.fields.items at f is.rising_fields gap)

  pub map_more_fields : (at : ℕ) (f : FieldEntry) → get (fields_of names c.fields.items) (field_key names f) ≡ None
      → fields_of names (insert c.fields.items at f) ≡ finite.insert (fields_of names c.fields.items) (field_key names f) (plain_field names f)
  map_more_fields at f none = inserted (field_key names) (plain_field names) c.fields.items at f none

  -- one less
  pub fewer_fields : (at : ℕ) → All (IsFieldEntry names) (remove c.fields.items at) × AreRising (map (field_key names) (remove c.fields.items at))
  fewer_fields at = (all_removed (IsFieldEntry names) c.fields.items at is.fields, keys_removed (field_key names) c.fields.items at is.rising_fields)

  pub map_fewer_fields : (at : ℕ) (f : Text) → slice_get (map (field_key names) c.fields.items) at ≡ Some f → fields_of names (remove c.fields.items at) ≡ finite.remove (fields_of names c.fields.items) f
  map_fewer_fields at f here =
      let it = got_at (field_key names) (plain_field names) c.fields.items at f is.rising_fields here in
      removed (field_key names) (plain_field names) c.fields.items at it.0 is.rising_fields it.1 ∙ ap (finite.remove (fields_of names c.fields.items)) it.2

  -- ---- methods

  pub method_absent : (m : Text) (at : ℕ) → get (methods_of names exprs c.methods.items) m ≡ None → ¬ (slice_get (map (method_key names) c.methods.items) at ≡ Some m)
  method_absent m at none here = none_there (method_key names) (plain_method names exprs) c.methods.items m at is.rising_methods none here

  pub method_there : (m : Text) → IsSome (get (methods_of names exprs c.methods.items) m) → (at : ℕ) × (slice_get (map (method_key names) c.methods.items) at ≡ Some m)
  method_there m some = entry_there (method_key names) (plain_method names exprs) c.methods.items m some

  pub more_methods : (at : ℕ) (m : MethodEntry) → IsMethodEntry names exprs m → IsGap (map (method_key names) c.methods.items) (method_key names m) at
      → All (IsMethodEntry names exprs) (insert c.methods.items at m) × AreRising (map (method_key names) (insert c.methods.items at m))
  more_methods at m known gap = (all_inserted (IsMethodEntry names exprs) c.methods.items at m is.methods known, keys_inserted (method_key names) c.methods.items at m is.rising_methods gap)

  pub map_more_methods : (at : ℕ) (m : MethodEntry) → get (methods_of names exprs c.methods.items) (method_key names m) ≡ None
      → methods_of names exprs (insert c.methods.items at m) ≡ finite.insert (methods_of names exprs c.methods.items) (method_key names m) (plain_method names exprs m)
  map_more_methods at m none = inserted (method_key names) (plain_method names exprs) c.methods.items at m none

  pub fewer_methods : (at : ℕ) → All (IsMethodEntry names exprs) (remove c.methods.items at) × AreRising (map (method_key names) (remove c.methods.items at))
  fewer_methods at = (all_removed (IsMethodEntry names exprs) c.methods.items at is.methods, keys_removed (method_key names) c.methods.items at is.rising_methods)

  pub map_fewer_methods : (at : ℕ) (m : Text) → slice_get (map (method_key names) c.methods.items) at ≡ Some m → methods_of names exprs (remove c.methods.items at) ≡ finite.remove (methods_of names exprs c.methods.items) m
  map_fewer_methods at m here =
      let it = got_at (method_key names) (plain_method names exprs) c.methods.items at m is.rising_methods here in
      removed (method_key names) (plain_method names exprs) c.methods.items at it.0 is.rising_methods it.1 ∙ ap (finite.remove (methods_of names exprs c.methods.items)) it.2

  -- one that takes the place of the one of its name
  pub set_methods : (at : ℕ) (m : MethodEntry) → IsMethodEntry names exprs m → slice_get (map (method_key names) c.methods.items) at ≡ Some (method_key names m)
      → All (IsMethodEntry names exprs) (set c.methods.items at m) × AreRising (map (method_key names) (set c.methods.items at m))
  set_methods at m known here =
      let it = element_at (method_key names) c.methods.items at (method_key names m) here in
      (All-set (IsMethodEntry names exprs) c.methods.items at m known is.methods, keys_set (method_key names) c.methods.items at it.0 m it.1 (sym it.2) is.rising_methods)

  pub map_set_methods : (at : ℕ) (m : MethodEntry) → slice_get (map (method_key names) c.methods.items) at ≡ Some (method_key names m)
      → methods_of names exprs (set c.methods.items at m) ≡ finite.insert (methods_of names exprs c.methods.items) (method_key names m) (plain_method names exprs m)
  map_set_methods at m here =
      let it = element_at (method_key names) c.methods.items at (method_key names m) here in
      set_at (method_key names) (plain_method names exprs) c.methods.items at it.0 m is.rising_methods it.1 (sym it.2)

  -- ---- a method declared again

  -- nothing has changed
  pub same_methods : (after : List MethodEntry) → AreSameMethods c.methods.items after
      → (All (IsMethodEntry names exprs) after × AreRising (map (method_key names) after)) × (methods_of names exprs after ≡ methods_of names exprs c.methods.items)
  same_methods after same =
      let key : method_key names same.new ≡ method_key names same.old = ap (text_at names) same.spot_is in
      let was = all_at (IsMethodEntry names exprs) c.methods.items same.at same.old is.methods same.stood in
      let now = method_is names exprs same.old same.new was same.result_is same.spot_is same.types_are same.bodies_are in
      let reads = plain_same names exprs same.old same.new same.result_is same.spot_is same.types_are same.bodies_are in
      let pair : MethodEntry → Text × calculus.MethodEntry = λ m. (method_key names m, plain_method names exprs m) in (
        (
          subst (All (IsMethodEntry names exprs)) (sym same.stands) (All-set (IsMethodEntry names exprs) c.methods.items same.at same.new now is.methods),
          subst (λ ms. AreRising (map (method_key names) ms)) (sym same.stands) (keys_set (method_key names) c.methods.items same.at same.old same.new same.stood key is.rising_methods),
        ),
        ap (methods_of names exprs) same.stands ∙ ap from_entries (set_same_key pair c.methods.items same.at same.old same.new same.stood (ap₂ (λ k x. (k, x)) key reads)),
      )

  -- one body more
  pub redeclared : (after : List MethodEntry) (name : Text) (result spot : Spot) (types : List Spot) (body : Body) (m : Method) (entry : calculus.MethodEntry)
      → IsRedeclaredAmong c.methods.items name names result spot types body after → IsKnown names result → IsKnown names spot → All (IsKnown names) types → IsBody names exprs (length types) body
      → text_at names spot ≡ name → get (methods_of names exprs c.methods.items) name ≡ Some entry → IsTrue (same_signature entry.signature (signature_of m))
      → plain_spot names spot ≡ m.name → plain_spot names result ≡ m.kind → map (plain_spot names) types ≡ (signature_of m).parameters → plain_body names exprs body ≡ body_of m
      → (All (IsMethodEntry names exprs) after × AreRising (map (method_key names) after))
      × (methods_of names exprs after ≡ finite.insert (methods_of names exprs c.methods.items) name (pushed_body m entry))
  redeclared after name result spot types body m entry again own_result own_spot own_types own_body key there same spot_is result_is types_are body_is =
      let old = again.old in
      let new = again.new in
      let was = all_at (IsMethodEntry names exprs) c.methods.items again.at old is.methods again.stood in
      let kept = got (method_key names) (plain_method names exprs) c.methods.items again.at old is.rising_methods again.stood in
      let entry_is : plain_method names exprs old ≡ entry = same_some (plain_method names exprs old) entry (get (methods_of names exprs c.methods.items) name) (subst (λ k. get (methods_of names exprs c.methods.items) k ≡ Some (plain_method names exprs old)) again.named kept) there in
      let new_key : method_key names new ≡ name = ap (text_at names) again.spot_is ∙ key in
      let count : length types ≡ length old.parameters =
      omega (arith, same_length entry.signature.parameters (signature_of m).parameters (first_true (same_types entry.signature.parameters (signature_of m).parameters) (bytes_eq entry.signature.result.text (signature_of m).result.text) same), ap (λ (e : calculus.MethodEntry). length e.signature.parameters) entry_is, length-map old.parameters (plain_spot names), ap length types_are, length-map types (plain_spot names)) in
      let now : IsMethodEntry names exprs new = record {
        spot = subst (IsKnown names) (sym again.spot_is) own_spot;
        result = subst (IsKnown names) (sym again.result_is) own_result;
        parameters = subst (All (IsKnown names)) (sym again.types_are) own_types;
        some = omega (arith, ap length again.bodies_are, length-append old.bodies.items (body ∷ []));
        bodies = subst (λ ps. All (IsBody names exprs (length ps)) new.bodies.items) (sym again.types_are)
            (subst (All (IsBody names exprs (length types))) (sym again.bodies_are)
            (All-push (IsBody names exprs (length types)) old.bodies.items body (subst (λ n. All (IsBody names exprs n) old.bodies.items) (sym count) was.bodies) own_body));
      } in
      let reads : plain_method names exprs new ≡ pushed_body m entry =
      plain_is names exprs new result spot types (old.bodies.items ++ body ∷ []) again.result_is again.spot_is again.types_are again.bodies_are
      ∙ ap₂ (λ at signature. record { at = at; signature = signature; bodies = map (plain_body names exprs) (old.bodies.items ++ body ∷ []) }) (ap (λ (x : plain.Spot). x.at) spot_is)
      (ap₂ (λ ps r. record { parameters = ps; result = r }) types_are result_is)
      ∙ ap (λ bs. record { at = m.name.at; signature = signature_of m; bodies = bs })
      (map-append (plain_body names exprs) old.bodies.items (body ∷ []) ∙ ap₂ (λ xs x. xs ++ x ∷ []) (ap (λ (e : calculus.MethodEntry). e.bodies) entry_is) body_is) in (
        (
          subst (All (IsMethodEntry names exprs)) (sym again.stands) (All-set (IsMethodEntry names exprs) c.methods.items again.at new now is.methods),
          subst (λ ms. AreRising (map (method_key names) ms)) (sym again.stands) (keys_set (method_key names) c.methods.items again.at old new again.stood (new_key ∙ sym again.named) is.rising_methods),
        ),
        ap (methods_of names exprs) again.stands ∙ set_at (method_key names) (plain_method names exprs) c.methods.items again.at old new is.rising_methods again.stood (new_key ∙ sym again.named)
            ∙ ap₂ (λ k x. finite.insert (methods_of names exprs c.methods.items) k x) new_key reads,
      )
